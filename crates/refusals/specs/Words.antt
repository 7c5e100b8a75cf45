-- A codec's fault in words.
use Rattle.std.specs.Prelude.{ℕ, List, codes}
use Rattle.refusals.specs.declared.CodecFault.{CodecFault}
use Rattle.refusals.specs.declared.CodecFault.TheVariants.{NoMeaning, PastEnd, NotAdmitted, NoSpace}

abbrev pub fault_words_of : CodecFault → List ℕ
fault_words_of NoMeaning = codes "the bytes mean no glyph list"
fault_words_of PastEnd = codes "there is no glyph at that index"
fault_words_of NotAdmitted = codes "the codec does not admit the list"
fault_words_of NoSpace = codes "the slice is too short"
