-- Proves that a list that begins with given rows is these rows joined with the pattern rows exactly if its other rows are all pattern rows and it
-- misses no pattern row.
-- Assumes nothing.
use Prim.Native.Nat.{ℕ, ◌+◌}
use mathlib.Core.Path.{◌≡◌, sym, ap, ◌∙◌}
use mathlib.Core.Logic.{◌⊎◌, inl, inr}
use mathlib.Core.Bool.{true}
use mathlib.Core.List.Memᴰ
use mathlib.Core.List.{List, ◌++◌}
use native.Mathlib.Omega.{arith}
use lib.Dec.{eqb}
use lib.ListN.{length, get_or, take, drop, take-append-drop}
use borrow.Author.Tests.{eqb-true, eq-eqb}
use Rattle.papers.specs.Lists.{◌∈◌, Asc, keep, every, same, merge}
use Rattle.list_laws.proofs.Tests.{Test, passes, fails, test, true-false, and-iff}
use Rattle.list_laws.proofs.Ascending.{asc-above, asc-distinct, asc-ext}
use Rattle.list_laws.proofs.Counts.{distinct_append}
use Rattle.list_laws.proofs.Keeps.{keep-from, keep-into, keep-asc}
use Rattle.list_laws.proofs.Members.{same_true, same_refl}
use Rattle.list_laws.proofs.Merges.{merge-asc, merge-left, merge-right, merge-from}
use Rattle.list_laws.proofs.Every.{every-all}
use Rattle.child_lists.specs.Marks.{is_marked}
use Rattle.check_marks.specs.Marked.{MarkedAre}
use Rattle.check_rows.specs.Added.{adds_own_rows}
use Rattle.check_marks.proofs.Judging.{asc-whole}

module _ (n j : ℕ) (w own more list : List ℕ) (marks : MarkedAre n j w own) (so : Asc j own) (sl : Asc j list)
    (begins : take (length more) list ≡ more) where
  whole : list ≡ take (length more) list ++ drop (length more) list
  whole = sym (take-append-drop (length more) list)

  in-own : {i : ℕ} → i ∈ list → is_marked n j w i ≡ true → i ∈ own
  in-own {i} t e = marks.sound i (omega (arith, asc-above j list sl t)) (eqb-true (get_or w (n + n + i) 0) j e)

  is-own : {i : ℕ} → i ∈ own → is_marked n j w i ≡ true
  is-own {i} t = eq-eqb (get_or w (n + n + i) 0) j (marks.all i t)

  from-begin : {i : ℕ} → i ∈ more → i ∈ list
  from-begin t = rw whole (Memᴰ.append_left {s = take (length more) list} (drop (length more) list) (rw begins t))

  from_end : {i : ℕ} → i ∈ drop (length more) list → i ∈ list
  from_end t = rw whole (Memᴰ.append_right (take (length more) list) t)

  -- both tests pass, so the list is the join
  joined_is : length (keep (is_marked n j w) list) ≡ length own → every (is_marked n j w) (drop (length more) list) ≡ true → Asc j more
      → list ≡ merge own more
  joined_is many all sm =
      asc-ext j list (merge own more) sl (merge-asc j own more so sm)
      (λ i t. into i (Memᴰ.append_cases (take (length more) list) (rw whole at t)))
      (λ i t. out i (merge-from own more t))
    where
      kept : keep (is_marked n j w) list ≡ own
      kept =
          asc-whole j (keep (is_marked n j w) list) own (keep-asc (is_marked n j w) j list sl) so
          (λ i t. let k = keep-from (is_marked n j w) list t in in-own k.0 k.1) many

      into : (i : ℕ) → (i ∈ take (length more) list) ⊎ (i ∈ drop (length more) list) → i ∈ merge own more
      into i (inl t) = merge-right own more (rw begins at t)
      into i (inr t) = merge-left own more (in-own (from_end t) ((every-all (is_marked n j w) (drop (length more) list)).0 all i t))

      out : (i : ℕ) → (i ∈ own) ⊎ (i ∈ more) → i ∈ list
      out i (inl t) = (keep-from (is_marked n j w) list {i = i} (rw kept t)).0
      out i (inr t) = from-begin t

  -- the list is the join, so both tests pass
  joined-many : list ≡ merge own more → length (keep (is_marked n j w) list) ≡ length own
  joined-many e =
      ap length (asc-ext j (keep (is_marked n j w) list) own (keep-asc (is_marked n j w) j list sl) so
      (λ i t. let k = keep-from (is_marked n j w) list t in in-own k.0 k.1)
      (λ i t. keep-into (is_marked n j w) list (rw e (merge-left own more t)) (is-own t)))

  joined-all : list ≡ merge own more → every (is_marked n j w) (drop (length more) list) ≡ true
  joined-all e = (every-all (is_marked n j w) (drop (length more) list)).1 (λ i t. is-own (go i t (merge-from own more (rw e at (from_end t)))))
    where
      apart : (i : ℕ) → i ∈ take (length more) list → i ∈ drop (length more) list → ⊥
      apart = (distinct_append (take (length more) list) (drop (length more) list) (rw whole at (asc-distinct j list sl))).2

      go : (i : ℕ) → i ∈ drop (length more) list → (i ∈ own) ⊎ (i ∈ more) → i ∈ own
      go i t (inl m) = m
      go i t (inr m) = absurd (apart i (rw begins m) t)

  pub adds-exactly : Asc j more → adds_own_rows n j list (length more) own w ≡ same list (merge own more)
  adds-exactly sm = go (test (adds_own_rows n j list (length more) own w)) (test (same list (merge own more)))
    where
      go : Test (adds_own_rows n j list (length more) own w) → Test (same list (merge own more))
          → adds_own_rows n j list (length more) own w ≡ same list (merge own more)
      go (passes e) (passes q) = e ∙ sym q
      go (fails e) (fails q) = e ∙ sym q
      go (passes e) (fails q) =
          let b = (and-iff (eqb (length (keep (is_marked n j w) list)) (length own)) (every (is_marked n j w) (drop (length more) list))).0 e in
          let is = joined_is (eqb-true (length (keep (is_marked n j w) list)) (length own) b.0) b.1 sm in
          absurd (true-false (ap (λ (x : List ℕ). same x (merge own more)) is ∙ same_refl (merge own more)) q)
      go (fails e) (passes q) =
          let is = same_true list (merge own more) q in
          absurd (true-false (rw (eq-eqb (length (keep (is_marked n j w) list)) (length own) (joined-many is), joined-all is)) e)
