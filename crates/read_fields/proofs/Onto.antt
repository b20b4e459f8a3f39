-- Proves facts of `onto`, which puts parts onto those read before: a loop that reads a list part by part finds or refuses the whole list.
-- Assumes nothing.
use Prim.Native.Nat.{ℕ, ◌+◌}
use mathlib.Core.List.{List, [], ◌∷◌, ◌++◌, append_assoc, append-nil}
use mathlib.Core.Path.{◌≡◌, refl, sym, ap, ◌∙◌}
use lib.ListN.{length, length-append}
use Rattle.papers.specs.Numbers.{Read, got, bad, onto}
use Rattle.bytes_laws.proofs.Fields.{onto-got, onto-bad}

module _ {A : Type 0} where
  pub onto-nil : (r : Read (List A)) → onto [] r ≡ r
  unfolding onto
  onto-nil (got a at) = refl
  onto-nil (bad c p) = refl

  pub onto-onto : (xs ys : List A) (r : Read (List A)) → onto xs (onto ys r) ≡ onto (xs ++ ys) r
  unfolding onto
  onto-onto xs ys (got a at) = ap (λ (l : List A). got l at) (sym (append_assoc xs ys a))
  onto-onto xs ys (bad c p) = refl

  -- reads some parts more: those left before are these and the ones left behind them
  pub more : (done some : List A) (next : Read (List A)) {left whole : Read (List A)} → onto done left ≡ whole → left ≡ onto some next
      → onto (done ++ some) next ≡ whole
  more done some next e f = sym (onto-onto done some next) ∙ ap (onto done) (sym f) ∙ e

  -- the part left is refused
  pub fails : (done : List A) {left whole : Read (List A)} {number place : ℕ} → onto done left ≡ whole → left ≡ bad number place
      → whole ≡ bad number place
  fails done e f = sym e ∙ onto-bad done f

  -- nothing is left
  pub ends : (done : List A) {left whole : Read (List A)} {k : ℕ} → onto done left ≡ whole → left ≡ got [] k → whole ≡ got done k
  ends done {k = k} e f = sym e ∙ onto-got done f ∙ ap (λ (l : List A). got l k) (append-nil done)

  pub length_more : (done : List A) (a : A) → length (done ++ (a ∷ [])) ≡ length done + 1
  length_more done a = length-append done (a ∷ [])
