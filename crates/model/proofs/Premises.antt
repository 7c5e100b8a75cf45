-- The worked cases meet the premise of the theorems: their models are well-formed.
use Rattle.std.proofs.Common.{ℕ, ◌<◌, List, rules}
use Rattle.std.specs.List.{AllByRecursion}
use Rattle.data_bytes.specs.BigEndian.{Bytes}
use Rattle.coverage.specs.Glyphs.{is_glyph_list_of}
use Rattle.coverage_list.specs.Format1.{is_array, array_meaning, array_bytes}
use Rattle.coverage_opentype.specs.Format2.{in_order, is_ranges, range_meaning}
use Rattle.coverage_opentype.specs.OpenType.{open_type_meaning, open_type_bytes}
use Rattle.model.specs.Sound.{Good}
use Rattle.model.specs.Samples.{model_s}
use Rattle.model.specs.SecondSample.{model_t}
use Rattle.std.proofs.ByRecursion.{All-get_or}

pub bytes_all : (bs : List ℕ) → AllByRecursion (λ b. b < 256) bs → Bytes bs
bytes_all bs a k lt = All-get_or (λ b. b < 256) bs k 0 lt a

pub good_s_open_type : Good open_type_meaning model_s
unfolding is_glyph_list_of is_array array_meaning in_order is_ranges range_meaning open_type_meaning
good_s_open_type = search (rules, bytes_all)

pub good_s_list : Good array_meaning model_s
unfolding is_glyph_list_of is_array array_meaning
good_s_list = search (rules, bytes_all)

pub good_t_open_type : Good open_type_meaning (model_t open_type_bytes)
unfolding is_glyph_list_of is_array array_meaning in_order is_ranges range_meaning open_type_meaning
good_t_open_type = search (rules, bytes_all) depth 40

pub good_t_list : Good array_meaning (model_t array_bytes)
unfolding is_glyph_list_of is_array array_meaning
good_t_list = search (rules, bytes_all) depth 40
