use Rattle.std.proofs.Common.{arith, rules}
use Rattle.coverage_list.specs.Format1.{array_bytes}
use Rattle.coverage_opentype.specs.OpenType.{open_type_bytes}
use Rattle.model.specs.Samples.{ample, model_s}
use Rattle.model.specs.SecondSample.{model_t}
use Rattle.model.proofs.Premises.{good_s_open_type, good_s_list, good_t_open_type, good_t_list}
use Rattle.model.proofs.samples.samples_load.Goals as goal

pub returns : goal.returns
returns c =
    let open_type = c.well_formed_models_load.ensures in
    let list = c.well_formed_models_load-2.ensures in
    record {
      open_type = (
        open_type ample model_s good_s_open_type (omega arith) (search rules),
        open_type ample (model_t open_type_bytes) good_t_open_type (omega arith) (search rules),
      );
      list = (
        list ample model_s good_s_list (omega arith) (search rules),
        list ample (model_t array_bytes) good_t_list (omega arith) (search rules),
      );
    }
