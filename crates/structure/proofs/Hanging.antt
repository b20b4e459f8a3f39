-- Proves what hanging a column under its parent changes: the column becomes the first child of that parent, and all other chains stay.
-- Assumes nothing.
use Prim.Native.Nat.{ℕ, zero, suc, ◌+◌, ◌<◌, ◌≤◌}
use mathlib.Core.Path.{◌≡◌, refl, sym, ◌∙◌}
use mathlib.Core.Logic.{◌≢◌}
use mathlib.Core.List.{List}
use native.Mathlib.Omega.{arith}
use lib.ListN.{length, get_or, set, length-set}
use lib.Seq.{get_or-set_same, get_or-set_other}
use Rattle.papers.specs.Job.{Pattern}
use Rattle.papers.specs.Tree.{parent}
use Rattle.list_laws.proofs.Tests.{Compare, below, level, above, compare}
use Rattle.column_laws.specs.Chains.{Chain}
use Rattle.column_laws.proofs.Chains.{chain-ext}
use Rattle.column_list.specs.Hung.{hung}
use Rattle.column_list.proofs.Hung.{hung-yes, hung-no, hung-from}
use Rattle.structure.specs.Hanging.{hanging}

-- ---- what hanging stores

pub hanging-root : (n c : ℕ) (w : List ℕ) → hanging n 0 c w ≡ w
unfolding hanging
hanging-root n c w = refl

pub hanging-is : (n p c : ℕ) (w : List ℕ) → p ≢ 0 → hanging n p c w ≡ set (set w (n + c) (get_or w p 0)) p c
unfolding hanging
hanging-is n zero c w h = absurd (h refl)
hanging-is n (suc p) c w h = refl

pub length-hanging : (n p c : ℕ) (w : List ℕ) → length (hanging n p c w) ≡ length w
unfolding hanging
length-hanging n zero c w = refl
length-hanging n (suc p) c w = length-set (set w (n + c) (get_or w (suc p) 0)) (suc p) c ∙ length-set w (n + c) (get_or w (suc p) 0)

-- every place but the parent's and the column's links keeps its number
pub hanging-else : (n p c : ℕ) (w : List ℕ) (x : ℕ) → x ≢ p → x ≢ n + c → get_or (hanging n p c w) x 0 ≡ get_or w x 0
unfolding hanging
hanging-else n zero c w x h g = refl
hanging-else n (suc p) c w x h g =
    get_or-set_other (set w (n + c) (get_or w (suc p) 0)) (suc p) x c 0 h ∙ get_or-set_other w (n + c) x (get_or w (suc p) 0) 0 g

module _ (n p c : ℕ) (w : List ℕ) (first : 1 ≤ p) (parent : p ≤ n) (column : 1 ≤ c) where
  hanging-first : p < length w → get_or (hanging n p c w) p 0 ≡ c
  hanging-first l =
      rw (hanging-is n p c w (λ e. omega arith)) (get_or-set_same (set w (n + c) (get_or w p 0)) p c 0 (rw length-set l))

  hanging-next : n + c < length w → get_or (hanging n p c w) (n + c) 0 ≡ get_or w p 0
  hanging-next l =
      rw (hanging-is n p c w (λ e. omega arith), get_or-set_other (set w (n + c) (get_or w p 0)) p (n + c) c 0 (λ e. omega arith))
      (get_or-set_same w (n + c) (get_or w p 0) 0 l)

-- ---- the children of each column

module _ (A : Pattern) where
  -- links list the children of each column up to n, among the columns up to m
  abbrev pub Chains : ℕ → ℕ → List ℕ → Type 0
  Chains n m w = (j : ℕ) → 1 ≤ j → j ≤ n → Chain w n (get_or w j 0) (hung A m j)

  -- hangs one column more
  pub hanging-chains : (n m : ℕ) (w : List ℕ) → m < n → n + n < length w → parent A (suc m) ≤ n → Chains n m w
      → Chains n (suc m) (hanging n (parent A (suc m)) (suc m) w)
  hanging-chains n m w mn long pn ch j l u = go (compare j p)
    where
      p : ℕ
      p = parent A (suc m)

      w' : List ℕ
      w' = hanging n (parent A (suc m)) (suc m) w

      kept : (k c : ℕ) → Chain w n c (hung A m k) → Chain w' n c (hung A m k)
      kept k c h =
          chain-ext w w' n c (hung A m k)
          (λ x t. let q = hung-from A m k x t in hanging-else n p (suc m) w (n + x) (λ e. omega (arith, q.first)) (λ e. omega (arith, q.most)))
          h

      other : j ≢ p → Chain w' n (get_or w' j 0) (hung A (suc m) j)
      other d = rw (hung-no A m j (λ e. d (sym e)), hanging-else n p (suc m) w j d (λ e. omega arith)) (kept j (get_or w j 0) (ch j l u))

      go : Compare j p → Chain w' n (get_or w' j 0) (hung A (suc m) j)
      go (below d) = other (λ e. omega arith)
      go (above d) = other (λ e. omega arith)
      go (level e) =
          let first : 1 ≤ p = omega arith in
          rw (hung-yes A m j (sym e), e) (
            hanging-first n p (suc m) w first pn (omega arith) (omega arith),
            (omega arith, rw (hanging-next n p (suc m) w first pn (omega arith) (omega arith)) (kept p (get_or w p 0) (ch p first pn))),
          )
