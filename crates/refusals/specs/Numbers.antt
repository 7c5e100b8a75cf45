-- The number and the value of each refusal, the number of each pool and of each codec fault.
use Rattle.std.specs.Prelude.{◌≡◌, ℕ}
use Rattle.refusals.specs.declared.Pool.{Pool}
use Rattle.refusals.specs.declared.Pool.TheVariants.{Vertices, Links, Bytes}
use Rattle.refusals.specs.declared.Refusal.{Refusal}
use Rattle.refusals.specs.declared.Refusal.TheVariants.{BadWord, NoRoom, BadLink, BadShape, BadEntry, BadCoverage, Empty, BadVirtual, NoLookup, BadCeiling, LongLigature, TooManySubtables, IsExtension, OffsetOverflow, ShortBuffer, NoPlace, Unreadable, NoRule}
use Rattle.refusals.specs.declared.CodecFault.{CodecFault}
use Rattle.refusals.specs.declared.CodecFault.TheVariants.{NoMeaning, PastEnd, NotAdmitted, NoSpace}

abbrev pub pool_number : Pool → ℕ
pool_number Vertices = 1
pool_number Links = 2
pool_number Bytes = 3

-- the number of a refusal, and the value that goes with it
abbrev pub refusal_code : Refusal → ℕ × ℕ
refusal_code (BadWord index) = (1, index)
refusal_code (NoRoom pool) = (2, pool_number pool)
refusal_code (BadLink vertex) = (3, vertex)
refusal_code (BadShape vertex) = (4, vertex)
refusal_code (BadEntry vertex) = (5, vertex)
refusal_code (BadCoverage vertex) = (6, vertex)
refusal_code (Empty vertex) = (7, vertex)
refusal_code (BadVirtual vertex) = (8, vertex)
refusal_code NoLookup = (9, 0)
refusal_code BadCeiling = (10, 0)
refusal_code (LongLigature vertex) = (11, vertex)
refusal_code (TooManySubtables vertex) = (12, vertex)
refusal_code IsExtension = (13, 0)
refusal_code OffsetOverflow = (14, 0)
refusal_code (ShortBuffer needed) = (15, needed)
refusal_code NoPlace = (16, 0)
refusal_code (Unreadable place) = (17, place)
refusal_code NoRule = (18, 0)

abbrev pub refusal_number : Refusal → ℕ
refusal_number r = (refusal_code r).0

abbrev pub refusal_value : Refusal → ℕ
refusal_value r = (refusal_code r).1

abbrev pub fault_number : CodecFault → ℕ
fault_number NoMeaning = 1
fault_number PastEnd = 2
fault_number NotAdmitted = 3
fault_number NoSpace = 4

-- two refusals of one number and one value are the same refusal, and two faults of one number the same fault
abbrev pub NumbersTell : Type 0
NumbersTell =
    ((r s : Refusal) → refusal_code r ≡ refusal_code s → r ≡ s)
    × ((f g : CodecFault) → fault_number f ≡ fault_number g → f ≡ g)
