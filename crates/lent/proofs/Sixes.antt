-- Proves that two values of six slices are equal if each of the six slices is.
-- Assumes nothing.
use Prim.Native.Nat.{ℕ}
use mathlib.Core.Path.{◌≡◌, ap}
use mathlib.Core.List.{List}
use Rattle.papers.specs.Lists.{zeros}
use Rattle.papers.specs.Analysis.{Lent, all_zero}
use Rattle.lent.specs.Six.{six_slices}

pub sixes : {p p' o o' q q' s s' r r' w w' : List ℕ} → p ≡ p' → o ≡ o' → q ≡ q' → s ≡ s' → r ≡ r' → w ≡ w'
    → six_slices p o q s r w ≡ six_slices p' o' q' s' r' w'
sixes a b c d e f i = six_slices (a i) (b i) (c i) (d i) (e i) (f i)

pub all-cleared : (p o q s r w : List ℕ) {p' o' q' s' r' w' : List ℕ} → p' ≡ zeros p → o' ≡ zeros o → q' ≡ zeros q → s' ≡ zeros s → r' ≡ zeros r
    → w' ≡ zeros w
    → six_slices p' o' q' s' r' w' ≡ all_zero (six_slices p o q s r w)
unfolding all_zero
all-cleared p o q s r w a b c d e f = sixes a b c d e f

-- clears slice by slice
pub record EachZero (before lent : Lent) : Type 0 where
  pub parents : lent.parents ≡ zeros before.parents
  pub order : lent.order ≡ zeros before.order
  pub pops : lent.pops ≡ zeros before.pops
  pub starts : lent.factor_starts ≡ zeros before.factor_starts
  pub rows : lent.factor_rows ≡ zeros before.factor_rows
  pub work : lent.work ≡ zeros before.work

pub each-zero : (before lent : Lent) → lent ≡ all_zero before → EachZero before lent
unfolding all_zero
each-zero before lent e =
    record {
      parents = ap (λ (l : Lent). l.parents) e;
      order = ap (λ (l : Lent). l.order) e;
      pops = ap (λ (l : Lent). l.pops) e;
      starts = ap (λ (l : Lent). l.factor_starts) e;
      rows = ap (λ (l : Lent). l.factor_rows) e;
      work = ap (λ (l : Lent). l.work) e;
    }
