-- Proves that the fault of a step of a run is the one whose condition holds while none before it does: four tests find it, one after the
-- other.
-- Assumes nothing.
use Prim.Native.Nat.{ℕ, ◌-◌, ◌<◌, ◌≤◌}
use mathlib.Core.Path.{◌≡◌, refl}
use mathlib.Core.Logic.{◌↔◌, ◌⊎◌, inl, inr}
use mathlib.Core.Bool.{Bool, true, false, ◌&&◌}
use mathlib.Core.List.{◌∷◌}
use native.Mathlib.Omega.{arith}
use lib.Dec.{ltb, leb}
use lib.ListN.{length, take}
use borrow.Author.Tests.{ltb-false, leb-true, le-ltb, le-leb}
use Rattle.papers.specs.Lists.{member, every}
use Rattle.papers.specs.Refusals.{answer}
use Rattle.papers.specs.Order.{column_at_step}
use Rattle.papers.specs.Run.{RunCall, rows_in_factor, pops_at, room_in_state, fits, fault_of_step, state_after, fault_at, step_column, held_at, KnownColumn}
use Rattle.papers.specs.Run.{bad_step}
use Rattle.papers.specs.Run.{AllFit, FaultyStep, unknown-column, too-many-pops, row-outside, over-room}
use Rattle.list_laws.proofs.Tests.{Test, passes, fails, test, and-iff}
use Rattle.list_laws.proofs.Members.{member-true, member-into}
use Rattle.list_laws.proofs.Every.{every-all}
use Rattle.refusal_laws.proofs.Agreements.{Agree}
use Rattle.refusal_laws.proofs.Tests.{below-iff, fails-iff, Faults, agree-faults}

-- the fault that four tests find, one after the other
abbrev fault_by : Bool → Bool → Bool → Bool → ℕ
fault_by known many fit over =
    elim known [ false ↦ 14 | true ↦ elim many [ true ↦ 21 | false ↦ elim fit [ false ↦ 22 | true ↦ elim over [ true ↦ 23 | false ↦ 0 ] ] ] ]

module _ (call : RunCall) where
  module _ (s : ℕ) where
    -- the four tests of a step
    known : Bool
    known = leb 1 (column_at_step call.columns s) && leb (column_at_step call.columns s) call.n

    many : Bool
    many = ltb (length (state_after call (s - 1)).held) (pops_at call s)

    fit : Bool
    fit = fits call (column_at_step call.columns s) (take (pops_at call s) (state_after call (s - 1)).held)

    over : Bool
    over = ltb call.room (room_in_state call s (state_after call (s - 1)))

    fault-is : fault_at call s ≡ fault_by known many fit over
    unfolding known many fit over fault_at fault_of_step
    fault-is = refl

    known-iff : (known ≡ true) ↔ KnownColumn call s
    unfolding known
    known-iff = (
      λ e. let (a, b) = (and-iff (leb 1 (step_column call s)) (leb (step_column call s) call.n)).0 e in
          (leb-true 1 (step_column call s) a, leb-true (step_column call s) call.n b),
      λ h. rw (le-leb 1 (step_column call s) h.0) (le-leb (step_column call s) call.n h.1),
    )

    many-iff : (many ≡ true) ↔ (length (held_at call s) < pops_at call s)
    unfolding many
    many-iff = below-iff (length (held_at call s)) (pops_at call s)

    fit-iff : (fit ≡ true) ↔ AllFit call s
    unfolding fit fits
    fit-iff =
        let front = step_column call s ∷ rows_in_factor call (step_column call s) in
        let all = every-all (λ u. every (λ i. member i front) (rows_in_factor call u)) (take (pops_at call s) (held_at call s)) in (
          λ e u i m r. member-true i front ((every-all (λ i. member i front) (rows_in_factor call u)).0 (all.0 e u m) i r),
          λ h. all.1 (λ u m. (every-all (λ i. member i front) (rows_in_factor call u)).1 (λ i r. member-into i front (h u i m r))),
        )

    over-iff : (over ≡ true) ↔ (call.room < room_in_state call s (state_after call (s - 1)))
    unfolding over
    over-iff = below-iff call.room (room_in_state call s (state_after call (s - 1)))

    fewer-iff : (many ≡ false) ↔ (pops_at call s ≤ length (held_at call s))
    unfolding many
    fewer-iff = (ltb-false (length (held_at call s)) (pops_at call s), le-ltb (length (held_at call s)) (pops_at call s))

  -- a step's fault is the one whose condition holds
  pub step-faults : Faults (fault_at call) (FaultyStep call)
  step-faults = record { is = is; some = λ s. go s (test (known s)) (test (many s)) (test (fit s)) (test (over s)) }
    where
      is : (s m : ℕ) → FaultyStep call s m → (fault_at call s ≡ m) × (0 < m)
      is s m (unknown-column k) = (rw (fault-is s, (fails-iff (known s) (known-iff s)).1 k), omega arith)
      is s m (too-many-pops k h) = (rw (fault-is s, (known-iff s).1 k, (many-iff s).1 h), omega arith)
      is s m (row-outside k h f) = (rw (fault-is s, (known-iff s).1 k, (fewer-iff s).1 h, (fails-iff (fit s) (fit-iff s)).1 f), omega arith)
      is s m (over-room k h f r) = (rw (fault-is s, (known-iff s).1 k, (fewer-iff s).1 h, (fit-iff s).1 f, (over-iff s).1 r), omega arith)

      go : (s : ℕ) → Test (known s) → Test (many s) → Test (fit s) → Test (over s) → (fault_at call s ≡ 0) ⊎ FaultyStep call s (fault_at call s)
      go s (fails k) m f r = inr (rw (fault-is s, k) (unknown-column ((fails-iff (known s) (known-iff s)).0 k)))
      go s (passes k) (passes m) f r = inr (rw (fault-is s, k, m) (too-many-pops ((known-iff s).0 k) ((many-iff s).0 m)))
      go s (passes k) (fails m) (fails f) r =
          inr (rw (fault-is s, k, m, f) (row-outside ((known-iff s).0 k) ((fewer-iff s).0 m) ((fails-iff (fit s) (fit-iff s)).0 f)))
      go s (passes k) (fails m) (passes f) (passes r) =
          inr (rw (fault-is s, k, m, f, r) (over-room ((known-iff s).0 k) ((fewer-iff s).0 m) ((fit-iff s).0 f) ((over-iff s).0 r)))
      go s (passes k) (fails m) (passes f) (fails r) = inl (rw (fault-is s, k, m, f, r))

  -- the test of the steps (14, 21, 22, 23) agrees with its condition
  pub steps-agree : Agree (bad_step.test call) (bad_step.gives call)
  steps-agree = agree-faults step-faults call.n (λ number s. answer number s (state_after call (s - 1)).greatest) (λ m s h. h)
