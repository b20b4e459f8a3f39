-- Proves the steps of the loop over the columns: after m columns the slices hold their parents, starts and lists, so the next list can be gathered
-- and stored.
-- Assumes nothing.
use Prim.Native.Nat.{ℕ, suc, ◌+◌, ◌-◌, ◌<◌, ◌≤◌}
use mathlib.Core.Path.{◌≡◌, refl, sym, ap, ◌∙◌}
use mathlib.Core.List.{List, [], ◌∷◌, map}
use native.Mathlib.Omega.{arith}
use native.Mathlib.Numerals.{add-one}
use lib.ListN.{length, get_or, set, length-set, length-map}
use lib.Seq.{sets, length-sets, get_or-set_same, set-set}
use Rattle.papers.specs.Lists.{head0, up_to, flat, starts_counted_from, zeros}
use Rattle.papers.specs.Job.{Pattern, Below, column_of}
use Rattle.papers.specs.Fill.{R}
use Rattle.papers.specs.Tree.{parent}
use Rattle.papers.specs.Key.{lists_of}
use Rattle.list_laws.proofs.Ascending.{asc-length}
use Rattle.list_laws.proofs.UpTo.{length-up_to}
use Rattle.list_laws.proofs.Stores.{sets-append, length-starts, starts-again}
use Rattle.job_laws.proofs.Laid.{length-lists, lists-none}
use Rattle.fill_laws.proofs.Fill.{R-asc, R-range}
use Rattle.column_laws.specs.Tested.{Tested}
use Rattle.column_laws.proofs.Columns.{tested-below}
use Rattle.column_laws.proofs.Families.{flat-more, length_more, starts-next}
use Rattle.list_laws.proofs.UpTo.{map-up_to}
use Rattle.child_lists.specs.Buffers.{list_in_turn}
use Rattle.column_list.specs.Stored.{rows_to, ListsStored, Gatherable, Gathers, Buffered}
use Rattle.structure.specs.Listed.{Storable, Stores, Listable, ColumnsListed}
use Rattle.structure.proofs.Storing.{parent_is, stored-none, lacks, storable, stored_on}

-- m columns are done, and the first start in s₀ is 0
pub record Running (n : ℕ) (starts rows p₀ s₀ f₀ w₀ x₀ y₀ p s f w x y : List ℕ) (m : ℕ) : Type 0 where
  pub tested : Tested n starts rows
  pub most : m ≤ n
  pub stored : ListsStored n m (column_of starts rows) s f w
  pub parents-are : p ≡ sets p₀ 0 (map (parent (column_of starts rows)) (up_to m))
  pub starts-are : s ≡ sets s₀ 0 (starts_counted_from 0 (lists_of m (R (column_of starts rows))))
  pub rows_are : f ≡ sets f₀ 0 (rows_to (column_of starts rows) m)
  pub room-p : n ≤ length p₀
  pub room-x : n ≤ length x₀
  pub room-y : n ≤ length y₀
  pub long-w : length w ≡ length w₀
  pub long-x : length x ≡ length x₀
  pub long-y : length y ≡ length y₀

pub run-begin : {n : ℕ} {starts rows p s x y w w₁ : List ℕ} (f : List ℕ) → Listable n starts rows p s x y w → w₁ ≡ zeros w
    → Running n starts rows p (set s 0 0) f w₁ x y p (set s 0 0) f w₁ x y 0
unfolding up_to starts_counted_from flat
run-begin {starts = starts} {rows} {s = s} {w = w} {w₁} f g e =
    let l = g.lengths in
    let A = column_of starts rows in
    record {
      tested = g.tested;
      most = omega arith;
      stored = stored-none A (set s 0 0) f w w₁ (rw length-set l.starts-long) (get_or-set_same s 0 0 0 (omega (arith, l.starts-long)))
          l.work-long e;
      parents-are = refl;
      starts-are = rw (lists-none (R A)) (sym (set-set s 0 0 0));
      rows_are = rw (lists-none (R A));
      room-p = l.parents-long;
      room-x = l.room-x;
      room-y = l.room-y;
      long-w = refl;
      long-x = refl;
      long-y = refl;
    }

module _ {n m : ℕ} {starts rows p₀ s₀ f₀ w₀ x₀ y₀ p s f w x y : List ℕ} (r : Running n starts rows p₀ s₀ f₀ w₀ x₀ y₀ p s f w x y m) where
  abbrev A : Pattern
  A = column_of starts rows

  good : Below n (column_of starts rows)
  good = tested-below r.tested

  pub long-p : length p ≡ length p₀
  long-p = ap length r.parents-are ∙ length-sets p₀ 0 (map (parent A) (up_to m))

  pub long-s : length s ≡ length s₀
  long-s = ap length r.starts-are ∙ length-sets s₀ 0 (starts_counted_from 0 (lists_of m (R A)))

  pub long-f : length f ≡ length f₀
  long-f = ap length r.rows_are ∙ length-sets f₀ 0 (rows_to A m)

  pub run-next : m < n → Gatherable n m starts rows s f w x y
  run-next l =
      record {
        next = record { tested = r.tested; column = l; stored = r.stored };
        room-x = rw r.long-x r.room-x;
        room-y = rw r.long-y r.room-y;
      }

  pub run_end : (get_or s m 0 ≤ length f) × (m < length s)
  run_end = (omega (arith, r.stored.starts-are m (omega arith), r.stored.rows_fit), omega (arith, r.stored.starts-long, r.most))

  -- the lists of the columns done
  listed : {s₁ : List ℕ} → s₀ ≡ set s₁ 0 0 → (m < n → length f < length (rows_to A (suc m))) → ColumnsListed n m A p₀ s₁ f₀ p s f
  listed {s₁} e h =
      record {
        most = r.most;
        lacks = λ l. rw long-f at (h l);
        fits = rw long-f at r.stored.rows_fit;
        parents-are = r.parents-are;
        starts-are = r.starts-are ∙ rw e (starts-again s₁ (lists_of m (R A)));
        rows_are = r.rows_are;
      }

  -- the next list does not fit
  pub run_short : {s₁ w₁ x₁ y₁ : List ℕ} {turn len : ℕ} → s₀ ≡ set s₁ 0 0 → m < n → Gathers n m A w w₁ x₁ y₁ turn len
      → length f - get_or s m 0 < len → ColumnsListed n m A p₀ s₁ f₀ p s f
  run_short e l g h = listed e (λ k. lacks good r.stored l (R A (m + 1)) refl (rw (← g.holds.count) h))

  -- all columns are done
  pub run-all : {s₁ : List ℕ} → s₀ ≡ set s₁ 0 0 → n ≤ m → ColumnsListed n n A p₀ s₁ f₀ p s f
  run-all {s₁} e l = let z : m ≡ n = omega (arith, r.most) in rw z at (listed {s₁ = s₁} e (λ k. absurd (omega arith)))

  -- ---- column m + 1

  module _ (l : m < n) {w₁ x₁ y₁ : List ℕ} {turn len : ℕ} (g : Gathers n m A w w₁ x₁ y₁ turn len) where
    pub run-buffered : length x₁ ≡ length x → length y₁ ≡ length y → Buffered len x₁ y₁
    run-buffered lx ly =
        let k = asc-length n (m + 1) (R A (m + 1)) (R-asc good (m + 1)) (λ i t. (R-range good (m + 1) i t).1) in
        record { in-x = omega (arith, g.holds.count, r.long-x, r.room-x); in-y = omega (arith, g.holds.count, r.long-y, r.room-y) }

    module _ {list : List ℕ} (q : list ≡ list_in_turn turn len x₁ y₁) (h : len ≤ length f - get_or s m 0) where
      is : list ≡ R A (m + 1)
      is = q ∙ g.holds.list

      room : length list ≤ length f - get_or s m 0
      room = rw (is, ← g.holds.count) h

      pub run_store : length w₁ ≡ length w → Storable n m list p s f w₁
      run_store lw = storable good r.stored l list is room w₁ g.changed lw p (rw long-p r.room-p)

      pub run_on : {p₁ s₁ f₁ w₂ : List ℕ} → Stores n m list p s f w₁ p₁ s₁ f₁ w₂
          → length w₁ ≡ length w → length w₂ ≡ length w₁ → length x₁ ≡ length x → length y₁ ≡ length y
          → Running n starts rows p₀ s₀ f₀ w₀ x₀ y₀ p₁ s₁ f₁ w₂ x₁ y₁ (m + 1)
      run_on {p₁} {s₁} {f₁} {w₂} k lw lv lx ly =
          record {
            tested = r.tested;
            most = omega arith;
            stored = rw add-one on;
            parents-are = rw (
              add-one,
              map-up_to (parent A) m,
              sets-append (map (parent A) (up_to m)) p₀ 0 (parent A (suc m) ∷ []),
              at_p,
              ← r.parents-are,
            ) (k.parents-are ∙ ap (set p m) head);
            starts-are = rw (
              add-one,
              starts-next (R A) m,
              sets-append (starts_counted_from 0 (lists_of m (R A))) s₀ 0 (length (rows_to A (suc m)) ∷ []),
              at-s,
              ← r.starts-are,
            ) (k.starts-are ∙ ap (set s (m + 1)) end);
            rows_are = rw (add-one, flat-more (R A) m, sets-append (rows_to A m) f₀ 0 (R A (suc m)), at_f, ← r.rows_are)
                (k.rows_are ∙ ap (sets f (get_or s m 0)) (is ∙ next));
            room-p = r.room-p;
            room-x = r.room-x;
            room-y = r.room-y;
            long-w = lv ∙ lw ∙ r.long-w;
            long-x = lx ∙ r.long-x;
            long-y = ly ∙ r.long-y;
          }
        where
          on : ListsStored n (suc m) A s₁ f₁ w₂
          on = stored_on good r.stored l list is room w₁ g.changed lw k

          next : R A (m + 1) ≡ R A (suc m)
          next = rw add-one

          head : head0 list ≡ parent A (suc m)
          head = ap head0 (is ∙ next) ∙ parent_is A (suc m)

          end : get_or s m 0 + length list ≡ length (rows_to A (suc m))
          end = omega (arith, r.stored.starts-are m (omega arith), length_more (R A) m, ap length (is ∙ next))

          at_p : 0 + length (map (parent A) (up_to m)) ≡ m
          at_p = omega (arith, length-map (up_to m) (parent A), length-up_to m)

          at-s : 0 + length (starts_counted_from 0 (lists_of m (R A))) ≡ m + 1
          at-s = omega (arith, length-starts 0 (lists_of m (R A)), length-lists (R A) m)

          at_f : 0 + length (rows_to A m) ≡ get_or s m 0
          at_f = omega (arith, r.stored.starts-are m (omega arith))
