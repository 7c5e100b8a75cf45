-- The laws of keyed rows, at the key of the row type.
use Rattle.rows.proofs.Laws.{rising_pairs, rising_from_neighbours, look_up_sound, look_up_complete, found_after_put, others_after_put, gone_after_remove, others_after_remove, rising_after_put, rising_after_remove, count_after_put, count_after_remove, told_by_look_ups}
use Rattle.rows.proofs.rows_keep_laws.Goals as goal

pub returns : goal.returns
returns g c =
    let key = g.T.Row.key in
    record {
      pairs = rising_pairs key;
      neighbours = rising_from_neighbours key;
      sound = look_up_sound key;
      complete = look_up_complete key;
      found = found_after_put key;
      beside = others_after_put key;
      gone = gone_after_remove key;
      left = others_after_remove key;
      up = rising_after_put key;
      still = rising_after_remove key;
      more = count_after_put key;
      fewer = count_after_remove key;
      told = told_by_look_ups key;
    }
