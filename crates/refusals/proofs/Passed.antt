-- Proves that a `?` hands on an error as it is, where the function's errors are of the same type.
-- Assumes nothing.
use Rattle.std.proofs.Common.{◌≡◌, ap, ◌∙◌, Result, Err}
use Rattle.std.specs.Result.{IsErrAnd}
use Rattle.std.proofs.lemmas.Result.{err_from_is_err_and}

pub handed-on : {T E : Type 0} (result : Result T E) {error : E} → IsErrAnd result (λ e. e ≡ error) → result ≡ Err error
handed-on result {error} h = let (e, is, same) = err_from_is_err_and result h in is ∙ ap (λ x. Err x) same
