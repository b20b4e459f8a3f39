-- Proves how orders of subtrees combine: siblings one after the other, in any arrangement, and then their parent.
-- Assumes nothing.
use Prim.Native.Nat.{ℕ, ◌<◌}
use mathlib.Core.Path.{◌≡◌, refl}
use mathlib.Core.Logic.{◌⊎◌, inl, inr, ◌↔◌, ◌≢◌}
use mathlib.Core.List.Memᴰ
use mathlib.Core.List.{List, [], ◌∷◌, ◌++◌, flat_map, reverse, reverse_aux, reverse_aux-eq}
use native.Mathlib.Omega.{arith}
use lib.Dec.{eqb}
use borrow.Author.Tests.{eqb-true, eqb-false}
use Rattle.papers.specs.Lists.{◌∈◌, Distinct}
use Rattle.papers.specs.Tree.{Under, top}
use Rattle.fill_laws.proofs.Subtrees.{under-trans, under-le}
use Rattle.list_laws.proofs.Tests.{Test, passes, fails, test}
use Rattle.order_laws.specs.Parents.{Tree}
use Rattle.order_laws.specs.Done.{SubtreeDone, Valid}
use Rattle.order_laws.proofs.Trees.{under-child, through, apart}
use Rattle.order_laws.proofs.Reversed.{reverse-from, reversed-mem}

module _ (par : ℕ → ℕ) where
  -- v orders the subtree of c, whatever was done before
  pub record SubtreeOrder (c : ℕ) (v : List ℕ) : Type 0 where
    pub valid : (done : List ℕ) → ((x : ℕ) → Under par c x → ¬ (x ∈ done)) → Valid par done v
    pub all : (x : ℕ) → (x ∈ v) ↔ Under par c x

  -- v orders the subtrees of cs
  pub record ForestOrder (cs v : List ℕ) : Type 0 where
    pub valid : (done : List ℕ) → ((c x : ℕ) → c ∈ cs → Under par c x → ¬ (x ∈ done)) → Valid par done v
    pub from : (x : ℕ) → x ∈ v → (c : ℕ) × (c ∈ cs) × Under par c x
    pub into : (c x : ℕ) → c ∈ cs → Under par c x → x ∈ v

  valid-append : (xs ys done : List ℕ) → Valid par done xs → Valid par (reverse_aux xs done) ys → Valid par done (xs ++ ys)
  valid-append [] ys done v w = w
  valid-append (x ∷ xs) ys done v w = (v.0, valid-append xs ys (x ∷ done) v.1 w)

module _ {par : ℕ → ℕ} {n : ℕ} (tree : Tree par n) where
  forest-cons : (j : ℕ) (v : ℕ → List ℕ) (c : ℕ) (cs : List ℕ) → Distinct (c ∷ cs) → ((d : ℕ) → d ∈ (c ∷ cs) → (par d ≡ j) × SubtreeOrder par d (v d))
      → ForestOrder par cs (flat_map v cs) → ForestOrder par (c ∷ cs) (v c ++ flat_map v cs)
  forest-cons j v c cs d h rest =
      record { valid = valid; from = λ x m. from x (Memᴰ.append_cases (v c) m); into = λ b x m s. into b x (Memᴰ.cases_cons m) s }
    where
      own : SubtreeOrder par c (v c)
      own = (h c (Memᴰ.head refl)).1

      off : (done : List ℕ) → ((b x : ℕ) → b ∈ (c ∷ cs) → Under par b x → ¬ (x ∈ done)) → (b x : ℕ) → b ∈ cs → Under par b x → (x ∈ v c) ⊎ (x ∈ done)
          → ⊥
      off done k b x m s (inl u) =
          apart tree j c b x (h c (Memᴰ.head refl)).0 (h b (Memᴰ.tail m)).0 (λ e. d.0 (Memᴰ.cast e m)) ((own.all x).0 u) s
      off done k b x m s (inr u) = k b x (Memᴰ.tail m) s u

      valid : (done : List ℕ) → ((b x : ℕ) → b ∈ (c ∷ cs) → Under par b x → ¬ (x ∈ done)) → Valid par done (v c ++ flat_map v cs)
      valid done k =
          valid-append par (v c) (flat_map v cs) done (own.valid done (λ x s. k c x (Memᴰ.head refl) s))
          (rest.valid (reverse_aux (v c) done) (λ b x m s u. off done k b x m s (reverse-from (v c) done u)))

      from : (x : ℕ) → (x ∈ v c) ⊎ (x ∈ flat_map v cs) → (b : ℕ) × (b ∈ (c ∷ cs)) × Under par b x
      from x (inl u) = (c, Memᴰ.head refl, (own.all x).0 u)
      from x (inr u) = let (b, m, s) = rest.from x u in (b, Memᴰ.tail m, s)

      into : (b x : ℕ) → (b ≡ c) ⊎ (b ∈ cs) → Under par b x → x ∈ (v c ++ flat_map v cs)
      into b x (inl e) s = Memᴰ.append_left (flat_map v cs) ((own.all x).1 (rw e at s))
      into b x (inr m) s = Memᴰ.append_right (v c) (rest.into b x m s)

  -- orders of siblings, one after the other, order all of them
  pub forest : (j : ℕ) (v : ℕ → List ℕ) (cs : List ℕ) → Distinct cs → ((c : ℕ) → c ∈ cs → (par c ≡ j) × SubtreeOrder par c (v c))
      → ForestOrder par cs (flat_map v cs)
  unfolding flat_map
  forest j v [] d h = record { valid = λ done k. tt; from = λ x m. absurd (Memᴰ.not-nil m); into = λ c x m s. absurd (Memᴰ.not-nil m) }
  forest j v (c ∷ cs) d h = forest-cons j v c cs d h (forest j v cs d.1 (λ b m. h b (Memᴰ.tail m)))

  -- a column done after its children's subtrees ends an order of its own
  pub column-last : (j : ℕ) (cs v : List ℕ) → 0 < j → ((c : ℕ) → (c ∈ cs) ↔ (par c ≡ j)) → ForestOrder par cs v → SubtreeOrder par j (v ++ (j ∷ []))
  column-last j cs v z k f = record { valid = valid; all = λ x. (λ m. from x (Memᴰ.append_cases v m), into x) }
    where
      child-of : (c x : ℕ) → c ∈ cs → Under par c x → Under par j x × (x ≢ j)
      child-of c x m s =
          let e = (k c).0 m in (
            under-trans par j c x (under-child par j c z e) s,
            λ q. absurd (omega (arith, under-le par tree.above c x s, tree.above c (omega arith))),
          )

      proper : (x : ℕ) → x ∈ v → Under par j x × (x ≢ j)
      proper x m = let (c, u, s) = f.from x m in child-of c x u s

      inside : (x : ℕ) → Under par j x → x ≢ j → x ∈ v
      inside x s h = let w = through par j x s h in f.into w.child x ((k w.child).1 w.parent) w.under

      ready : (done : List ℕ) → ((x : ℕ) → Under par j x → ¬ (x ∈ done)) → SubtreeDone par (reverse_aux v done) j
      ready done h = record {
        inside = reverse v;
        before = done;
        split = reverse_aux-eq v done;
        all = λ x. (λ m. proper x ((reversed-mem v).0 m), λ s. (reversed-mem v).1 (inside x s.0 s.1));
        new = λ m. new (reverse-from v done m);
      }
        where
          new : (j ∈ v) ⊎ (j ∈ done) → ⊥
          new (inl m) = (proper j m).1 refl
          new (inr m) = h j top m

      valid : (done : List ℕ) → ((x : ℕ) → Under par j x → ¬ (x ∈ done)) → Valid par done (v ++ (j ∷ []))
      valid done h = valid-append par v (j ∷ []) done (f.valid done (λ c x m s. h x (child-of c x m s).0)) (ready done h, tt)

      from : (x : ℕ) → (x ∈ v) ⊎ (x ∈ (j ∷ [])) → Under par j x
      from x (inl m) = (proper x m).0
      from x (inr (Memᴰ.head e)) = rw e top
      from x (inr (Memᴰ.tail m)) = absurd (Memᴰ.not-nil m)

      into : (x : ℕ) → Under par j x → x ∈ (v ++ (j ∷ []))
      into x s = go (test (eqb x j))
        where
          go : Test (eqb x j) → x ∈ (v ++ (j ∷ []))
          go (passes e) = Memᴰ.append_right v (Memᴰ.head (eqb-true x j e))
          go (fails e) = Memᴰ.append_left (j ∷ []) (inside x s (eqb-false x j e))
