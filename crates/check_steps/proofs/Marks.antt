-- Proves that marks find a repeated_at column: the columns of the first steps are marked, so the next step's column is marked exactly if one of these
-- steps named it.
-- Assumes nothing.
use Rattle.std.specs.Prelude.{Some, None}
use Prim.Native.Nat.{ℕ, suc, ◌+◌, ◌-◌, ◌<◌, ◌≤◌}
use mathlib.Core.Path.{◌≡◌, refl, sym, ◌∙◌}
use mathlib.Core.Logic.{◌⊎◌, inl, inr, ◌≢◌}
use mathlib.Core.Bool.{true, false}
use mathlib.Core.List.Memᴰ
use mathlib.Core.List.{List, [], ◌∷◌, ◌++◌}
use native.Mathlib.Omega.{arith}
use native.Mathlib.Numerals.{add-one}
use lib.ListN.{length, get_or, set, take, drop, length-append, length-set, length-replicate, get_or-replicate, get_or-append}
use lib.Seq.{take-suc, length-take-le, get_or-set_same, get_or-set_other}
use Rattle.papers.specs.Lists.{◌∈◌, zeros, least}
use Rattle.papers.specs.Order.{column_at_step}
use Rattle.papers.specs.Check.{repeated_at}
use Rattle.list_laws.proofs.Members.{member-into, member-out}
use Rattle.list_laws.proofs.Leasts.{least-none, least-here}
use Rattle.list_laws.proofs.Tests.{same_or}
use Rattle.refusals.specs.Answers.{place_if_any}
use Rattle.check_steps.specs.Steps.{Within}
use Rattle.check_steps.proofs.Places.{no-place, place-at}

pub record Marks (order work₀ work : List ℕ) (i : ℕ) : Type 0 where
  pub marked : (j : ℕ) → j ≤ length order → 0 < get_or work j 0 → j ∈ take i order
  pub unmarked : (j : ℕ) → j ≤ length order → get_or work j 0 ≡ 0 → ¬ (j ∈ take i order)
  pub none : least (repeated_at order) i ≡ 0
  pub seen : i ≤ length order
  pub long : length work ≡ length work₀
  pub room : length order < length work

module _ (order : List ℕ) where
  repeats : (i : ℕ) → get_or order i 0 ∈ take i order → repeated_at order (suc i) ≡ true
  unfolding repeated_at column_at_step
  repeats i m = let e : suc i - 1 ≡ i = omega arith in rw e (member-into (get_or order i 0) (take i order) m)

  new : (i : ℕ) → ¬ (get_or order i 0 ∈ take i order) → repeated_at order (suc i) ≡ false
  unfolding repeated_at column_at_step
  new i m = let e : suc i - 1 ≡ i = omega arith in rw e (member-out (get_or order i 0) (take i order) m)

  -- the first n + 1 numbers of work came back cleared
  pub marks-start : (work z : List ℕ) → length order < length work → z ≡ zeros (take (length order + 1) work)
      → Marks order (z ++ drop (length order + 1) work) (z ++ drop (length order + 1) work) 0
  unfolding least
  marks-start work z h e = record {
    marked = λ j l p. absurd (omega (arith, cleared j l));
    unmarked = λ j l p m. Memᴰ.not-nil m;
    none = refl;
    seen = omega arith;
    long = refl;
    room = omega (arith, length-append z (drop (length order + 1) work), count);
  }
    where
      count : length z ≡ length order + 1
      count = rw e (length-replicate (length (take (length order + 1) work)) 0 ∙ length-take-le (length order + 1) work (omega arith))

      cleared : (j : ℕ) → j ≤ length order → get_or (z ++ drop (length order + 1) work) j 0 ≡ 0
      cleared j l =
          get_or-append z (drop (length order + 1) work) 0 j (omega (arith, count))
          ∙ rw e (get_or-replicate {A = ℕ} (length (take (length order + 1) work)) j 0 0
          (omega (arith, length-take-le (length order + 1) work (omega arith))))

  module _ (within : Within (length order) order) (work₀ work : List ℕ) (i : ℕ) (inv : Marks order work₀ work i) where
    pub marks-stop : length order ≤ i → None ≡ place_if_any (least (repeated_at order) (length order))
    marks-stop h = let s = inv.seen in let e : i ≡ length order = omega arith in no-place (rw e at inv.none)

    module _ (more : i < length order) where
      pub marks-found : 0 < get_or work (get_or order i 0) 0 → Some (i + 1) ≡ place_if_any (least (repeated_at order) (length order))
      marks-found p =
          place-at (least-here (repeated_at order) i (length order) inv.none (repeats i (inv.marked (get_or order i 0) (within i more).1 p))
          (omega arith))

      pub marks-turn : get_or work (get_or order i 0) 0 ≤ 0 → Marks order work₀ (set work (get_or order i 0) 1) (i + 1)
      marks-turn p = rw add-one (record {
        marked = λ j l q. rw (take-suc order i 0 more) (one j l q (same_or j (get_or order i 0)));
        unmarked = λ j l q m. other j l q (Memᴰ.append_cases (take i order) (rw (take-suc order i 0 more) at m));
        none = least-none (repeated_at order) i inv.none (new i (inv.unmarked (get_or order i 0) (within i more).1 (omega arith)));
        seen = omega arith;
        long = length-set work (get_or order i 0) 1 ∙ inv.long;
        room = omega (arith, inv.room, length-set work (get_or order i 0) 1);
      })
        where
          inside : get_or order i 0 < length work
          inside = omega (arith, (within i more).1, inv.room)

          one : (j : ℕ) → j ≤ length order → 0 < get_or (set work (get_or order i 0) 1) j 0 → (j ≡ get_or order i 0) ⊎ (j ≢ get_or order i 0)
              → j ∈ (take i order ++ (get_or order i 0 ∷ []))
          one j l q (inl e) = Memᴰ.append_right (take i order) (Memᴰ.head e)
          one j l q (inr e) = Memᴰ.append_left _ (inv.marked j l (omega (arith, get_or-set_other work (get_or order i 0) j 1 0 e)))

          other : (j : ℕ) → j ≤ length order → get_or (set work (get_or order i 0) 1) j 0 ≡ 0 → (j ∈ take i order) ⊎ (j ∈ (get_or order i 0 ∷ [])) → ⊥
          other j l q m = go m (same_or j (get_or order i 0))
            where
              go : (j ∈ take i order) ⊎ (j ∈ (get_or order i 0 ∷ [])) → (j ≡ get_or order i 0) ⊎ (j ≢ get_or order i 0) → ⊥
              go m (inl e) = let f : get_or (set work (get_or order i 0) 1) j 0 ≡ 1 = rw e (get_or-set_same work (get_or order i 0) 1 0 inside) in omega arith
              go (inl m) (inr e) = inv.unmarked j l (sym (get_or-set_other work (get_or order i 0) j 1 0 e) ∙ q) m
              go (inr m) (inr e) = last (Memᴰ.cases_cons m)
                where
                  last : (j ≡ get_or order i 0) ⊎ (j ∈ []) → ⊥
                  last (inl d) = e d
                  last (inr d) = Memᴰ.not-nil d
