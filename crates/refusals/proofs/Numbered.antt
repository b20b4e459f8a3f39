-- Proves that every refusal has a number, which is not 0: that is the number of an answer that is done.
-- Assumes nothing.
use Rattle.std.proofs.Common.{ℕ, ◌<◌, ◌≡◌, ◌≢◌, refl, true, false, Result, Ok, Err, arith}
use Rattle.std.specs.Result.{is_err}
use Rattle.std.proofs.lemmas.Bool.{false≢true, true≢false}
use Rattle.refusals.specs.declared.Refusal.{Refusal}
use Rattle.refusals.specs.declared.Refusal.TheVariants.{TooManyColumns, UnknownMark, LimitTooHigh, StartsAtFault, RowOutOfRange, RowNotAscending, SliceTooShort}
use Rattle.refusals.specs.declared.Refusal.TheVariants.{FactorRowsDoNotFit, PeakOverLimit, BytesDoNotFit, NotTheKey, BytesEnd, NumberTooLong, ValueOutOfRange}
use Rattle.refusals.specs.declared.Refusal.TheVariants.{BytesFollow, ColumnRepeated, ListNotTheFill, SubtreeScattered, PopsNotChildren, PeakNotDeclared}
use Rattle.refusals.specs.declared.Refusal.TheVariants.{TooFewUpdates, RowOutsideFront, RoomExceeded, UpdatesLeft, BadText, OverProgramSizes, KeyUnreadable}
use Rattle.refusals.specs.declared.Refused.{Refused}
use Rattle.refusals.specs.Answers.{number_of, answer_from}

pub numbered : (refusal : Refusal) → 0 < number_of refusal
numbered TooManyColumns = omega arith
numbered UnknownMark = omega arith
numbered LimitTooHigh = omega arith
numbered StartsAtFault = omega arith
numbered RowOutOfRange = omega arith
numbered RowNotAscending = omega arith
numbered SliceTooShort = omega arith
numbered FactorRowsDoNotFit = omega arith
numbered PeakOverLimit = omega arith
numbered BytesDoNotFit = omega arith
numbered NotTheKey = omega arith
numbered BytesEnd = omega arith
numbered NumberTooLong = omega arith
numbered ValueOutOfRange = omega arith
numbered BytesFollow = omega arith
numbered ColumnRepeated = omega arith
numbered ListNotTheFill = omega arith
numbered SubtreeScattered = omega arith
numbered PopsNotChildren = omega arith
numbered PeakNotDeclared = omega arith
numbered TooFewUpdates = omega arith
numbered RowOutsideFront = omega arith
numbered RoomExceeded = omega arith
numbered UpdatesLeft = omega arith
numbered BadText = omega arith
numbered OverProgramSizes = omega arith
numbered KeyUnreadable = omega arith

pub number-not-zero : (refusal : Refusal) → number_of refusal ≢ 0
number-not-zero refusal z = omega (arith, numbered refusal)

-- so the number of an answer says whether the outcome is an error
pub error-numbered : (outcome : Result ℕ Refused) → is_err outcome ≡ true → (answer_from outcome).number ≢ 0
error-numbered (Ok count) e = absurd (false≢true e)
error-numbered (Err refused) e = number-not-zero refused.refusal

pub done-numbered : (outcome : Result ℕ Refused) → is_err outcome ≡ false → (answer_from outcome).number ≡ 0
done-numbered (Ok count) e = refl
done-numbered (Err refused) e = absurd (true≢false e)
