-- Proves one step of an order. The columns that wait for j are its children, and their updates are on top, since j's subtree is done right
-- before it. After the step they wait no more, and j does, unless it is a root.
-- Assumes nothing.
use Prim.Native.Nat.{ℕ, ◌<◌, ◌≤◌}
use mathlib.Core.Path.{◌≡◌, refl, sym, ap, ◌∙◌}
use mathlib.Core.Logic.{◌⊎◌, inl, inr, ◌↔◌, ◌≢◌}
use mathlib.Core.Bool.{Bool, false}
use mathlib.Core.List.Memᴰ
use mathlib.Core.List.{List, [], ◌∷◌, ◌++◌}
use native.Mathlib.Omega.{arith}
use lib.Dec.{eqb}
use lib.ListN.{length, take, drop, length-append}
use lib.Seq.{drop_at, take_at}
use borrow.Author.Tests.{eqb-true, eqb-false, eq-eqb, ne_eqb}
use Rattle.papers.specs.Lists.{◌∈◌, Distinct, keep}
use Rattle.papers.specs.Tree.{children, Under}
use Rattle.list_laws.proofs.Tests.{Test, passes, fails, test}
use Rattle.list_laws.proofs.Keeps.{keep-yes, keep-no, keep_append, keep-none, keep-from, keep-into, keep-distinct, keep_same}
use Rattle.list_laws.proofs.Counts.{same_length, distinct_append}
use Rattle.order_laws.specs.Parents.{Tree}
use Rattle.order_laws.specs.Done.{SubtreeDone}
use Rattle.order_laws.specs.Stack.{missing, waiting, pushed_on}
use Rattle.order_laws.proofs.Missing.{missing-done, missing-yes, missing-from, missing-more}
use Rattle.order_laws.proofs.Trees.{under-cases, under-child}
use Rattle.order_laws.proofs.Subtrees.{children-of, children-distinct}

pub pushed-root : (par : ℕ → ℕ) (j : ℕ) (held : List ℕ) → par j ≡ 0 → pushed_on par j held ≡ held
unfolding pushed_on
pushed-root par j held e = rw (eq-eqb (par j) 0 e, pushed_on)

pub pushed-update : (par : ℕ → ℕ) (j : ℕ) (held : List ℕ) → 0 < par j → pushed_on par j held ≡ j ∷ held
unfolding pushed_on
pushed-update par j held h = rw (ne_eqb (par j) 0 (λ e. absurd (omega arith)), pushed_on)

pub waiting_none : (par : ℕ → ℕ) → waiting par [] ≡ []
unfolding waiting keep
waiting_none par = refl

-- the columns that wait: they are done and have a parent that is not
pub waiting-are : (par : ℕ → ℕ) (done : List ℕ) (x : ℕ) → (x ∈ waiting par done) ↔ ((x ∈ done) × (0 < par x) × (¬ (par x ∈ done)))
unfolding waiting
waiting-are par done x = (
  λ m. let (a, b) = keep-from (λ y. missing done (par y)) done m in let (c, d) = missing-from done (par x) b in (a, c, d),
  λ (a, c, d). keep-into (λ y. missing done (par y)) done a (missing-yes done (par x) c d),
)

module _ {par : ℕ → ℕ} {n : ℕ} (tree : Tree par n) (done : List ℕ) (j : ℕ) (pos : 0 < j) (ready : SubtreeDone par done j) (distinct : Distinct done)
    (later : ¬ (par j ∈ done)) where
  open ready use {inside, before, split, all, new}

  waits : List ℕ → ℕ → Bool
  waits l x = missing l (par x)

  is_child : ℕ → Bool
  is_child x = eqb (par x) j

  -- the parent of a proper descendant of j is j, or another proper descendant
  inner : (x : ℕ) → x ∈ inside → (0 < par x) × Under par j (par x)
  inner x m = go (under-cases par j x ((all x).0 m).0)
    where
      go : (x ≡ j) ⊎ ((0 < par x) × Under par j (par x)) → (0 < par x) × Under par j (par x)
      go (inl e) = absurd (((all x).0 m).1 e)
      go (inr s) = s

  inner-done : (x : ℕ) → x ∈ inside → par x ≢ j → par x ∈ done
  inner-done x m h = rw split (Memᴰ.append_left before ((all (par x)).1 ((inner x m).1, h)))

  inside-before : (x : ℕ) → x ∈ inside → waits done x ≡ is_child x
  unfolding waits is_child
  inside-before x m = go (test (eqb (par x) j))
    where
      go : Test (eqb (par x) j) → missing done (par x) ≡ eqb (par x) j
      go (passes e) = missing-yes done (par x) (inner x m).0 (λ k. new (Memᴰ.cast (sym (eqb-true (par x) j e)) k)) ∙ sym e
      go (fails e) = missing-done done (par x) (inner-done x m (eqb-false (par x) j e)) ∙ sym e

  inside-after : (x : ℕ) → x ∈ inside → waits (j ∷ done) x ≡ false
  unfolding waits
  inside-after x m = missing-done (j ∷ done) (par x) (go (test (eqb (par x) j)))
    where
      go : Test (eqb (par x) j) → par x ∈ (j ∷ done)
      go (passes e) = Memᴰ.head (eqb-true (par x) j e)
      go (fails e) = Memᴰ.tail (inner-done x m (eqb-false (par x) j e))

  parts : Distinct inside × Distinct before × ((i : ℕ) → i ∈ inside → i ∈ before → ⊥)
  parts = distinct_append inside before (rw split at distinct)

  child-inside : (x : ℕ) → par x ≡ j → x ∈ inside
  child-inside x e = (all x).1 (under-child par j x pos e, λ q. absurd (omega (arith, tree.above x (omega arith))))

  before-after : (x : ℕ) → x ∈ before → waits (j ∷ done) x ≡ waits done x
  unfolding waits
  before-after x m = missing-more done (par x) j (λ e. parts.2 x (child-inside x e) m)

  -- the columns that waited are the children of j, and those that still wait
  waited : waiting par done ≡ keep is_child inside ++ keep (waits done) before
  unfolding waiting waits
  waited =
      ap (keep (waits done)) split ∙ (keep_append (waits done) inside before ∙ ap (λ l. l ++ keep (waits done) before)
      (keep_same (waits done) is_child inside inside-before))

  still : keep (waits (j ∷ done)) done ≡ keep (waits done) before
  still =
      ap (keep (waits (j ∷ done))) split
      ∙ (keep_append (waits (j ∷ done)) inside before
      ∙ (ap (λ l. l ++ keep (waits (j ∷ done)) before) (keep-none (waits (j ∷ done)) inside inside-after) ∙ keep_same (waits (j ∷ done)) (waits done)
      before before-after))

  waits-then : waiting par (j ∷ done) ≡ pushed_on par j (keep (waits done) before)
  unfolding waiting waits missing
  waits-then = go (test (eqb (par j) 0))
    where
      go : Test (eqb (par j) 0) → keep (waits (j ∷ done)) (j ∷ done) ≡ pushed_on par j (keep (waits done) before)
      go (passes e) =
          keep-no (waits (j ∷ done)) j done (rw (eqb-true (par j) 0 e, missing))
          ∙ (still ∙ sym (pushed-root par j (keep (waits done) before) (eqb-true (par j) 0 e)))
      go (fails e) =
          let z : par j ≢ 0 = eqb-false (par j) 0 e in
          let h : 0 < par j = omega arith in
          let out : (par j ≡ j) ⊎ (par j ∈ done) → ⊥ = λ c. elim c [ inl q ↦ omega (arith, tree.above j h) | inr m ↦ later m ] in
          keep-yes (waits (j ∷ done)) j done (missing-yes (j ∷ done) (par j) h (λ m. out (Memᴰ.cases_cons m)))
          ∙ (ap (λ l. j ∷ l) still ∙ sym (pushed-update par j (keep (waits done) before) h))

  taken-are : (x : ℕ) → (x ∈ keep is_child inside) ↔ (par x ≡ j)
  unfolding is_child
  taken-are x = (λ m. eqb-true (par x) j (keep-from is_child inside m).1, λ e. keep-into is_child inside (child-inside x e) (eq-eqb (par x) j e))

  taken-count : length (keep is_child inside) ≡ length (children par n j)
  taken-count =
      same_length (keep is_child inside) (children par n j) (keep-distinct is_child inside parts.0) (children-distinct par n j)
      (λ i m. (children-of tree j i pos).1 ((taken-are i).0 m)) (λ i m. (taken-are i).1 ((children-of tree j i pos).0 m))

  -- a step pops as many as j has children
  pub waiting-next : waiting par (j ∷ done) ≡ pushed_on par j (drop (length (children par n j)) (waiting par done))
  waiting-next =
      waits-then ∙ ap (pushed_on par j) (sym (ap (drop (length (children par n j))) waited ∙ drop_at (keep is_child inside) (keep (waits done) before)
      (length (children par n j)) taken-count))

  -- what a step pops are the children of j
  pub waiting-taken : (x : ℕ) → (x ∈ take (length (children par n j)) (waiting par done)) ↔ (par x ≡ j)
  waiting-taken x = rw (waited, take_at (keep is_child inside) (keep (waits done) before) (length (children par n j)) taken-count) (taken-are x)

  pub waiting-enough : length (children par n j) ≤ length (waiting par done)
  waiting-enough = rw waited (omega (arith, taken-count, length-append (keep is_child inside) (keep (waits done) before)))
