use Rattle.model.proofs.Knowing.{every_line_agrees, every_line_behind_a_load_agrees}
use Rattle.model.proofs.law.every_answer_agrees_with_the_book.Goals as goal

pub returns : goal.returns
returns g c =
    let lawful = c.codecs_are_lawful.ensures in
    record { loads = λ caps. every_line_behind_a_load_agrees caps _ _ _ lawful; models = λ caps. every_line_agrees caps _ _ _ lawful }
