use Rattle.std.proofs.Common.{◌≡◌, Ok, Err, Result, rules}
use Rattle.coverage.specs.Glyphs.{is_glyph_list_of}
use Rattle.coverage_list.specs.Format1.{is_array, array_meaning, array_bytes, array_span}
use Rattle.coverage_opentype.specs.Format2.{in_order, is_ranges, range_meaning}
use Rattle.coverage_opentype.specs.OpenType.{open_type_meaning, open_type_bytes, open_type_span}
use Rattle.model.specs.Cutting.{run_size}
use Rattle.model.specs.Law.{WritesAlong}
use Rattle.model.specs.Samples.{ample, wrote_s, line_s, desk_s}
use Rattle.model.proofs.Premises.{bytes_all, good_s_open_type, good_s_list, good_t_open_type, good_t_list}
use Rattle.model.proofs.samples.samples_meet_the_premises.Goals as goal

never : {X Y Z : Type 0} {e : Y} {x : X} → ◌≡◌ {A = Result X Y} (Err e) (Ok x) → Z
never h = cc

open_type_line : WritesAlong ample open_type_meaning open_type_span (wrote_s open_type_bytes) 0 desk_s line_s
unfolding run_size is_glyph_list_of is_array array_meaning in_order is_ranges range_meaning open_type_meaning
open_type_line = search (rules, bytes_all, never) depth 40

list_line : WritesAlong ample array_meaning array_span (wrote_s array_bytes) 0 desk_s line_s
unfolding run_size is_glyph_list_of is_array array_meaning
list_line = search (rules, bytes_all, never) depth 40

pub returns : goal.returns
returns c = record { open_type = (good_s_open_type, good_t_open_type); list = (good_s_list, good_t_list); open_type_line = open_type_line; list_line = list_line }
