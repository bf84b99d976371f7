-- Following alias targets ends, and linking a root to another root moves exactly the values that ended there: no chain is longer than there are aliases.
-- Assumes nothing.
use Prim.Native.Nat.{ℕ, zero, suc, ◌<◌, ◌≤◌}
use mathlib.Core.Path.{◌≡◌, refl, sym, ap, ◌∙◌, subst}
use mathlib.Core.Logic.{◌≢◌, inl, inr}
use mathlib.Core.Bool.{true, not}
use lib.Dec.{eqb}
use native.Mathlib.Omega.{arith}
use native.Mathlib.Nat.{le_of_suc-le-suc, not-suc-le-zero, le_trans}
use Rattle.definition.specs.Base.{put}
use Rattle.definition.specs.Read.{follow}
use Rattle.definition.specs.Session.{bit}
use Rattle.meaning.proofs.Maps.{same?, put_other, put_at, eqb_same, eqb_diff, put_same}
use Rattle.meaning.proofs.Sums.{sum_most, sum, sum_suc, bit_most, sum_change}

-- k links from z to y, which is its own target
pub data Chain (t : ℕ → ℕ) : ℕ → ℕ → ℕ → Type 0 where
  stop : {y : ℕ} → t y ≡ y → Chain t 0 y y
  link : {k z y : ℕ} → t z ≢ z → Chain t k (t z) y → Chain t (suc k) z y

-- how many of the first n are aliases
abbrev pub cnt : (ℕ → ℕ) → ℕ → ℕ
cnt t n = sum (λ i. bit (not (eqb (t i) i))) n

cnt_step : (t : ℕ → ℕ) (n : ℕ) → cnt t n ≤ cnt t (suc n)
cnt_step t n = omega (arith, sum_suc (λ i. bit (not (eqb (t i) i))) n)

cnt_le : (t : ℕ → ℕ) (n : ℕ) → cnt t n ≤ n
cnt_le t n = omega (arith, sum_most 1 (λ i. bit (not (eqb (t i) i))) n (λ i _. bit_most (not (eqb (t i) i))))

eqb_true : (a b : ℕ) → a ≡ b → eqb a b ≡ true
eqb_true a b e = ap (λ (k : ℕ). eqb k b) e ∙ eqb_same b

cnt_put : (t : ℕ → ℕ) (x y n : ℕ) → x < n → t x ≡ x → y ≢ x → cnt (put x y t) n ≡ suc (cnt t n)
cnt_put t x y n l r d =
    let was : bit (not (eqb (t x) x)) ≡ 0 = rw (eqb_true (t x) x r) in
    let is : bit (not (eqb (put x y t x) x)) ≡ 1 = rw (put_same x y t, eqb_diff y x d) in
    let new = sum_change (λ i. bit (not (eqb (put x y t i) i))) (λ i. bit (not (eqb (t i) i))) x n
    (λ i k. ap (λ (j : ℕ). bit (not (eqb j i))) (put_other x y t i k)) l in
    omega (arith, new, was, is)

pub follow_root : (t : ℕ → ℕ) (n z : ℕ) → t z ≡ z → follow n t z ≡ z
follow_root t zero z e = refl
follow_root t (suc n) z e = rw (eqb_true (t z) z e, follow)

follow_chain : (t : ℕ → ℕ) {k z y : ℕ} → Chain t k z y → (n : ℕ) → k ≤ n → follow n t z ≡ y
follow_chain t (stop {y} e) n h = follow_root t n y e
follow_chain t (link ne c) zero h = absurd (not-suc-le-zero h)
follow_chain t (link {k} {z} {y} ne c) (suc n) h = rw (eqb_diff (t z) z ne, follow) (follow_chain t c n (le_of_suc-le-suc h))

chain_root : {t : ℕ → ℕ} {k z y : ℕ} → Chain t k z y → t y ≡ y
chain_root (stop e) = e
chain_root (link ne c) = chain_root c

module _ (t : ℕ → ℕ) (x y : ℕ) (rx : t x ≡ x) (ry : t y ≡ y) (d : y ≢ x) where
  chain_keep : {k z r : ℕ} → Chain t k z r → r ≢ x → Chain (put x y t) k z r
  chain_keep (stop {y = z} e) n = stop (put_other x y t z n ∙ e)
  chain_keep (link {k} {z} {y = r} ne c) n =
      let same : put x y t z ≡ t z = put_other x y t z (λ q. ne (ap t q ∙ rx ∙ sym q)) in
      link (λ q. ne (sym same ∙ q)) (subst (λ (i : ℕ). Chain (put x y t) k i r) (sym same) (chain_keep c n))

  chain_move : {k z r : ℕ} → Chain t k z r → r ≡ x → Chain (put x y t) (suc k) z y
  chain_move (stop {y = z} e) q =
      let at : put x y t z ≡ y = put_at x y t z q in
      link (λ i. d (sym at ∙ i ∙ q)) (subst (λ (i : ℕ). Chain (put x y t) 0 i y) (sym at) (stop (put_other x y t y d ∙ ry)))
  chain_move (link {k} {z} {y = r} ne c) n =
      let same : put x y t z ≡ t z = put_other x y t z (λ q. ne (ap t q ∙ rx ∙ sym q)) in
      link (λ q. ne (sym same ∙ q)) (subst (λ (i : ℕ). Chain (put x y t) (suc k) i y) (sym same) (chain_move c n))

-- every walk ends, within the number of aliases
pub record Ended (t : ℕ → ℕ) (n z : ℕ) : Type 0 where
  len : ℕ
  root : ℕ
  chain : Chain t len z root
  short : len ≤ cnt t n

abbrev pub Tree : (ℕ → ℕ) → ℕ → Type 0
Tree t n = (z : ℕ) → Ended t n z

pub tree_start : (n : ℕ) → Tree (λ x. x) n
tree_start n z = record { len = 0; root = z; chain = stop refl; short = omega arith }

pub tree_suc : (t : ℕ → ℕ) (n : ℕ) → Tree t n → Tree t (suc n)
tree_suc t n h z = let e = h z in record { len = e.len; root = e.root; chain = e.chain; short = le_trans e.short (cnt_step t n) }

ends : (t : ℕ → ℕ) (n : ℕ) (h : Tree t n) (z : ℕ) → follow n t z ≡ (h z).root
ends t n h z = follow_chain t (h z).chain n (le_trans (h z).short (cnt_le t n))

pub root_is : (t : ℕ → ℕ) (n z : ℕ) → Tree t n → t (follow n t z) ≡ follow n t z
root_is t n z h = ap t (ends t n h z) ∙ chain_root (h z).chain ∙ sym (ends t n h z)

-- more links change nothing
pub follow_more : (t : ℕ → ℕ) (n m z : ℕ) → Tree t n → n ≤ m → follow m t z ≡ follow n t z
follow_more t n m z h l = follow_chain t (h z).chain m (le_trans (h z).short (le_trans (cnt_le t n) l)) ∙ sym (ends t n h z)

module _ (t : ℕ → ℕ) (n x y : ℕ) (h : Tree t n) (lt : x < n) (rx : t x ≡ x) (ry : t y ≡ y) (d : y ≢ x) where
  pub tree_alias : Tree (put x y t) n
  tree_alias z =
      let more = cnt_put t x y n lt rx d in elim (same? (h z).root x) [
        | inl e ↦ record { len = suc (h z).len; root = y; chain = chain_move t x y rx ry d (h z).chain e; short = rw more (omega (arith, (h z).short)) }
        | inr m ↦ record { len = (h z).len; root = (h z).root; chain = chain_keep t x y rx ry d (h z).chain m; short = rw more (omega (arith, (h z).short)) }
      ]

  pub follow_keep : (z : ℕ) → follow n t z ≢ x → follow n (put x y t) z ≡ follow n t z
  follow_keep z ne =
      let c = chain_keep t x y rx ry d (h z).chain (λ q. ne (ends t n h z ∙ q)) in
      follow_chain (put x y t) c n (le_trans (h z).short (cnt_le t n)) ∙ sym (ends t n h z)

  pub follow_move : (z : ℕ) → follow n t z ≡ x → follow n (put x y t) z ≡ y
  follow_move z e =
      let c = chain_move t x y rx ry d (h z).chain (sym (ends t n h z) ∙ e) in
      follow_chain (put x y t) c n (le_trans (rw (cnt_put t x y n lt rx d) (omega (arith, (h z).short))) (cnt_le (put x y t) n))

  -- what were one stay one
  pub follow_same : (z w : ℕ) → follow n t z ≡ follow n t w → follow n (put x y t) z ≡ follow n (put x y t) w
  follow_same z w e = elim (same? (follow n t z) x) [
    | inl q ↦ follow_move z q ∙ sym (follow_move w (sym e ∙ q))
    | inr q ↦ follow_keep z q ∙ e ∙ sym (follow_keep w (λ i. q (e ∙ i)))
  ]
