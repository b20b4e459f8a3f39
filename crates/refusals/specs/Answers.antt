-- Defines which number each refusal has, and what a Result or an Option stands for in the rules: an answer, a verdict, a fault's number, a place.
-- Assumes nothing.
use Rattle.std.specs.Prelude.{ℕ, zero, suc, Option, None, Some, Result, Ok, Err}
use Rattle.papers.specs.declared.Answer.{Answer}
use Rattle.papers.specs.Refusals.{answer, Verdict, passed, refused}
use Rattle.refusals.specs.declared.Refusal.{Refusal}
use Rattle.refusals.specs.declared.Refusal.TheVariants.{TooManyColumns, UnknownMark, LimitTooHigh, StartsAtFault, RowOutOfRange, RowNotAscending, SliceTooShort, FactorRowsDoNotFit, PeakOverLimit, BytesDoNotFit, NotTheKey, BytesEnd, NumberTooLong, ValueOutOfRange, BytesFollow, ColumnRepeated, ListNotTheFill, SubtreeScattered, PopsNotChildren, PeakNotDeclared, TooFewUpdates, RowOutsideFront, RoomExceeded, UpdatesLeft, BadText, OverProgramSizes, KeyUnreadable}
use Rattle.refusals.specs.declared.Refused.{Refused}
use Rattle.refusals.specs.declared.Fault.{Fault}

-- the number of a refusal in the rules' table
abbrev pub number_of : Refusal → ℕ
number_of TooManyColumns = 1
number_of UnknownMark = 2
number_of LimitTooHigh = 3
number_of StartsAtFault = 4
number_of RowOutOfRange = 5
number_of RowNotAscending = 6
number_of SliceTooShort = 7
number_of FactorRowsDoNotFit = 8
number_of PeakOverLimit = 9
number_of BytesDoNotFit = 10
number_of NotTheKey = 11
number_of BytesEnd = 12
number_of NumberTooLong = 13
number_of ValueOutOfRange = 14
number_of BytesFollow = 15
number_of ColumnRepeated = 16
number_of ListNotTheFill = 17
number_of SubtreeScattered = 18
number_of PopsNotChildren = 19
number_of PeakNotDeclared = 20
number_of TooFewUpdates = 21
number_of RowOutsideFront = 22
number_of RoomExceeded = 23
number_of UpdatesLeft = 24
number_of BadText = 25
number_of OverProgramSizes = 26
number_of KeyUnreadable = 27

-- a fault, with no count
abbrev pub refused_without_count : Fault → Refused
refused_without_count fault = record { refusal = fault.refusal; place = fault.place; count = 0 }

-- the answer of a call that refuses
abbrev pub answer_refusing : Refused → Answer
answer_refusing r = answer (number_of r.refusal) r.place r.count

-- the answer of a call with this outcome: done with a count, or refused
abbrev pub answer_from : Result ℕ Refused → Answer
answer_from (Ok count) = answer 0 0 count
answer_from (Err r) = answer_refusing r

-- the verdict of a test with this outcome
abbrev pub verdict_from : Result Unit Refused → Verdict
verdict_from (Ok _) = passed
verdict_from (Err r) = refused (answer_refusing r)

-- the number of a fault, 0 if there is none
abbrev pub fault_from : Result Unit Refusal → ℕ
fault_from (Ok _) = 0
fault_from (Err refusal) = number_of refusal

-- a place that counts from 1, where 0 means that there is none
abbrev pub place_if_any : ℕ → Option ℕ
place_if_any zero = None
place_if_any (suc k) = Some (suc k)
