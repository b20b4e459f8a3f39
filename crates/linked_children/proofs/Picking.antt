-- Proves the steps of the search for the longest child: none of the children passed has more rows than the best, and links still lead to the others.
-- Assumes nothing.
use Prim.Native.Nat.{ℕ, zero, suc, ◌+◌, ◌<◌, ◌≤◌}
use mathlib.Core.Path.{◌≡◌, refl, sym, ◌∙◌}
use mathlib.Core.Logic.{◌⊎◌, inl, inr, ◌≢◌}
use mathlib.Core.List.Memᴰ
use mathlib.Core.List.{List, ◌∷◌}
use native.Mathlib.Omega.{arith}
use lib.ListN.{length, get_or}
use Rattle.papers.specs.Lists.{◌∈◌}
use Rattle.column_laws.specs.Chains.{Chain, Desc}
use Rattle.column_laws.proofs.Chains.{chain-on, chain-end, chain-only, chain-ext, desc-first}
use Rattle.linked_children.specs.Children.{rows_of, Child, Siblings, Linked, Longest}

-- the next of linked children
pub record Further (n c : ℕ) (fs w children : List ℕ) : Type 0 where
  pub rest : List ℕ
  pub is : children ≡ c ∷ rest
  pub child : Child fs c
  pub most : c ≤ n
  pub siblings : Siblings n (get_or w (n + c) 0) fs w rest
  pub falls : get_or w (n + c) 0 < c

pub further : {n c : ℕ} {fs w children : List ℕ} → Siblings n c fs w children → c ≢ 0 → Further n c fs w children
further {n} {c} {fs} {w} {children} s h =
    let l = chain-on w n c children s.chain h in
    let d : Desc (suc c) (c ∷ l.rest) = rw l.is at s.desc in
    let f = desc-first w n (get_or w (n + c) 0) c l.rest l.chain d.1 l.positive in
    record {
      rest = l.rest;
      is = l.is;
      child = s.each c (rw l.is (Memᴰ.head refl));
      most = s.most c (rw l.is (Memᴰ.head refl));
      siblings = record {
        chain = l.chain;
        desc = f.1;
        each = λ x m. s.each x (rw l.is (Memᴰ.tail m));
        most = λ x m. s.most x (rw l.is (Memᴰ.tail m));
        links = s.links;
      };
      falls = f.0;
    }

-- another work that keeps the same links
pub siblings-ext : {n c : ℕ} {fs w children : List ℕ} (w' : List ℕ) → Siblings n c fs w children → ((p : ℕ) → p ≤ n + n → get_or w' p 0 ≡ get_or w p 0)
    → length w' ≡ length w
    → Siblings n c fs w' children
siblings-ext {n} {c} {fs} {w} {children} w' s same l =
    record {
      chain = chain-ext w w' n c children (λ d m. same (n + d) (omega (arith, s.most d m))) s.chain;
      desc = s.desc;
      each = s.each;
      most = s.most;
      links = rw l s.links;
    }

-- best is a child before d with the most rows
pub record Picking (n c : ℕ) (fs w : List ℕ) (best most d : ℕ) : Type 0 where
  pub children : List ℕ
  pub chain : Chain w n c children
  pub left : List ℕ
  pub siblings : Siblings n d fs w left
  pub left_in : (e : ℕ) → e ∈ left → e ∈ children
  pub passed : (e : ℕ) → e ∈ children → (rows_of fs e ≤ most) ⊎ (e ∈ left)
  pub none : most ≡ 0 → d ≡ c
  pub picked : 0 < most → (best ∈ children) × (rows_of fs best ≡ most)

pub begin : {n c : ℕ} {fs w : List ℕ} → Linked n c fs w → Picking n c fs w c 0 c
begin {n} {c} {fs} {w} l =
    record {
      children = l.children;
      chain = l.siblings.chain;
      left = l.children;
      siblings = l.siblings;
      left_in = λ e m. m;
      passed = λ e m. inr m;
      none = λ e. refl;
      picked = λ h. absurd (omega arith);
    }

module _ {n c : ℕ} {fs w : List ℕ} {best most d : ℕ} (p : Picking n c fs w best most d) where
  module _ (h : d ≢ 0) where
    next : Further n d fs w p.left
    next = further p.siblings h

    pub child-at : Child fs d
    child-at = next.child

    pub link : n + d < length w
    link = omega (arith, next.most, p.siblings.links)

    pub goes_down : get_or w (n + d) 0 < d
    goes_down = next.falls

    here : d ∈ p.children
    here = p.left_in d (rw next.is (Memᴰ.head refl))

    -- passes d, which has at most that many rows
    on : (b k : ℕ) → most ≤ k → rows_of fs d ≤ k → (b ∈ p.children) × (rows_of fs b ≡ k) → 0 < k → Picking n c fs w b k (get_or w (n + d) 0)
    on b k u v q z =
        record {
          children = p.children;
          chain = p.chain;
          left = next.rest;
          siblings = next.siblings;
          left_in = λ e m. p.left_in e (rw next.is (Memᴰ.tail m));
          passed = λ e m. go e (p.passed e m);
          none = λ e. absurd (omega arith);
          picked = λ o. q;
        }
      where
        split : (e : ℕ) → (e ≡ d) ⊎ (e ∈ next.rest) → (rows_of fs e ≤ k) ⊎ (e ∈ next.rest)
        split e (inl i) = inl (rw i v)
        split e (inr t) = inr t

        go : (e : ℕ) → (rows_of fs e ≤ most) ⊎ (e ∈ p.left) → (rows_of fs e ≤ k) ⊎ (e ∈ next.rest)
        go e (inl o) = inl (omega arith)
        go e (inr t) = split e (Memᴰ.cases_cons (rw next.is at t))

    -- d has more rows than the best
    pub takes : most < rows_of fs d → Picking n c fs w d (rows_of fs d) (get_or w (n + d) 0)
    takes l = on d (rows_of fs d) (omega arith) (omega arith) (here, refl) (omega arith)

    -- d has no more rows than the best; since it has rows, there is a best
    pub keeps : rows_of fs d ≤ most → Picking n c fs w best most (get_or w (n + d) 0)
    keeps l =
        let b = child-at.begins in
        let z : 0 < most = omega arith in
        on best most (omega arith) l (p.picked z) z

  pub picked : d ≡ 0 → Longest n c fs w best
  picked e =
      record {
        among = λ children chain h. rw (same children chain) (p.picked (positive h)).0;
        most = λ children chain h x m. at_most (positive h) x (p.passed x (rw (same children chain) at m));
      }
    where
      same : (children : List ℕ) → Chain w n c children → children ≡ p.children
      same children chain = chain-only w n c children p.children chain p.chain

      positive : c ≢ 0 → 0 < most
      positive h = go most refl
        where
          go : (k : ℕ) → most ≡ k → 0 < k
          go zero q = absurd (h (sym (p.none q) ∙ e))
          go (suc k) q = omega arith

      at_most : 0 < most → (x : ℕ) → (rows_of fs x ≤ most) ⊎ (x ∈ p.left) → rows_of fs x ≤ rows_of fs best
      at_most z x (inl l) = rw (p.picked z).1 l
      at_most z x (inr m) = absurd (Memᴰ.not-nil (rw (chain-end w n d p.left p.siblings.chain e) at m))
