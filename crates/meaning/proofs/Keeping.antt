-- A parameter that is kept keeps the invariant: each destination that names its block gets one argument more, the result of its own predecessor.
-- Assumes nothing.
use Prim.Native.Nat.{ℕ, zero, suc, ◌<◌}
use mathlib.Core.Path.{◌≡◌, refl, sym, ap, ◌∙◌, subst}
use mathlib.Core.Logic.{◌≢◌, ◌⊎◌, inl, inr}
use mathlib.Core.Bool.{true, false}
use mathlib.Core.Option.{some}
use mathlib.Core.List.{List, [], ◌∷◌, ◌++◌, append_assoc}
use lib.Dec.{eqb}
use lib.ListN.{length, get_or, drop, length-append}
use native.Mathlib.Omega.{arith}
use native.Mathlib.Nat.{not-suc-le-zero, le_of_suc-le-suc}
use Rattle.definition.specs.Base.{put}
use Rattle.definition.specs.Form.{Graph, Form, def, with_args}
use Rattle.definition.specs.Read.{resolve, is_dest, feed_all, feed}
use Rattle.meaning.specs.Path.{In}
use Rattle.meaning.specs.Stored.{Nodup}
use Rattle.meaning.proofs.Maps.{same?, put_same, put_other, put_at, some_inj, false_true, bool?, eqb_eq, eqb_same, eqb_diff}
use Rattle.meaning.proofs.Facts.{Edge, kept, arg_of}
use Rattle.meaning.proofs.Alias.{follow_root}
use Rattle.meaning.proofs.Lists.{in_left, in_right, snds, arg_more, arg_last, drop_first}
use Rattle.meaning.proofs.Inv.{Inv, edge_grow, x_par, was_pending, kept_root, grow_refl, not_kept, still_pending, pending, Work, Frame, cut}

pub dest_yes : (ds : List ℕ) (i b : ℕ) → i < length ds → get_or ds i 0 ≡ b → is_dest ds i b ≡ true
dest_yes [] i b l e = absurd (not-suc-le-zero l)
dest_yes (d ∷ ds) zero b l e = ap (λ (k : ℕ). eqb k b) e ∙ eqb_same b
dest_yes (d ∷ ds) (suc i) b l e = dest_yes ds i b (le_of_suc-le-suc l) e

pub dest_is : (ds : List ℕ) (i b : ℕ) → is_dest ds i b ≡ true → (i < length ds) × (get_or ds i 0 ≡ b)
dest_is [] i b e = absurd (false_true refl e)
dest_is (d ∷ ds) zero b e = (omega arith, eqb_eq d b e)
dest_is (d ∷ ds) (suc i) b e = let r = dest_is ds i b e in (omega (arith, r.0), r.1)

-- feeding reaches the destinations of p that are b, and nothing else
pub feed_here : (p b x i : ℕ) (ds : List ℕ) (a : ℕ → ℕ → List ℕ) → is_dest ds i b ≡ true → feed p b x ds a p i ≡ a p i ++ x ∷ []
feed_here p b x i ds a e = rw (eqb_same p) (rw e refl)

pub feed_else : (p b x q i : ℕ) (ds : List ℕ) (a : ℕ → ℕ → List ℕ) → (q ≡ p → is_dest ds i b ≡ false) → feed p b x ds a q i ≡ a q i
feed_else p b x q i ds a n = elim (same? q p) [ inl e ↦ rw (e, eqb_same p, n e) refl | inr d ↦ rw (eqb_diff q p d) refl ]

-- r is the result of the predecessor q
abbrev Pairs : ℕ → ℕ → List ℕ → List ℕ → Type 0
Pairs q r [] rs = ⊥
Pairs q r (p ∷ ps) [] = ⊥
Pairs q r (p ∷ ps) (t ∷ rs) = ((q ≡ p) × (r ≡ t)) ⊎ Pairs q r ps rs

module _ (g : Graph) (b : ℕ) where
  pub all_else : (ps rs : List ℕ) (a : ℕ → ℕ → List ℕ) (q i : ℕ) → (In q ps → is_dest (g.dests q) i b ≡ false)
      → feed_all g b ps rs a q i ≡ a q i
  all_else [] rs a q i n = refl
  all_else (p ∷ ps) [] a q i n = refl
  all_else (p ∷ ps) (r ∷ rs) a q i n = all_else ps rs (feed p b r (g.dests p) a) q i (λ j. n (inr j)) ∙ feed_else p b r q i (g.dests p) a (λ e. rw e at (n (inl e)))

  -- where there is a result for each predecessor, each destination gets its predecessor's
  all_here : (ps rs : List ℕ) (a : ℕ → ℕ → List ℕ) (q i : ℕ) → length rs ≡ length ps → Nodup ps → In q ps
      → is_dest (g.dests q) i b ≡ true
      → (r : ℕ) × (feed_all g b ps rs a q i ≡ a q i ++ r ∷ []) × Pairs q r ps rs
  all_here (p ∷ ps) [] a q i len n j e = absurd (omega (arith, len))
  all_here [] rs a q i len n j e = elim j [ ]
  all_here (p ∷ ps) (r ∷ rs) a q i len n (inl k) e = (
    r,
    all_else ps rs (feed p b r (g.dests p) a) q i (λ j. absurd (n.0 (subst (λ (u : ℕ). In u ps) k j))) ∙ rw k (feed_here p b r i (g.dests p) a (rw k at e)),
    inl (k, refl),
  )
  all_here (p ∷ ps) (r ∷ rs) a q i len n (inr j) e =
      let k = all_here ps rs (feed p b r (g.dests p) a) q i (omega (arith, len)) n.1 j e in
      (k.0, k.1 ∙ ap (λ (l : List ℕ). l ++ k.0 ∷ []) (feed_else p b r q i (g.dests p) a (λ h. absurd (n.0 (subst (λ (u : ℕ). In u ps) h j)))), inr k.2)

-- each predecessor's result stands for what it records of v
abbrev pub Results : ℕ → Form → List ℕ → List ℕ → Type 0
Results v s [] [] = Unit {0}
Results v s [] (r ∷ rs) = ⊥
Results v s (p ∷ ps) [] = ⊥
Results v s (p ∷ ps) (r ∷ rs) = ((o : ℕ) × (def s v p ≡ some o) × (resolve s r ≡ resolve s o)) × Results v s ps rs

pub results_length : (v : ℕ) (s : Form) (ps rs : List ℕ) → Results v s ps rs → length rs ≡ length ps
results_length v s [] (r ∷ rs) h = elim h [ ]
results_length v s (p ∷ ps) [] h = elim h [ ]
results_length v s [] [] h = refl
results_length v s (p ∷ ps) (r ∷ rs) h = ap suc (results_length v s ps rs h.1)

result_at : (v : ℕ) (s : Form) (ps rs : List ℕ) (q r : ℕ) → Results v s ps rs → Pairs q r ps rs
    → (o : ℕ) × (def s v q ≡ some o) × (resolve s r ≡ resolve s o)
result_at v s [] rs q r h x'' = elim x'' [ ]
result_at v s (p ∷ ps) [] q r h _ = elim h [ ]
result_at v s (p ∷ ps) (t ∷ rs) q r h (inl k) = rw (k.0, k.1) h.0
result_at v s (p ∷ ps) (t ∷ rs) q r h (inr k) = result_at v s ps rs q r h.1 k

pub result_of : (v : ℕ) (s : Form) (ps rs : List ℕ) (q : ℕ) → Results v s ps rs → In q ps
    → (r o : ℕ) × (def s v q ≡ some o) × (resolve s r ≡ resolve s o) × In r rs
result_of v s [] rs q h x'' = elim x'' [ ]
result_of v s (p ∷ ps) [] q h _ = elim h [ ]
result_of v s (p ∷ ps) (r ∷ rs) q h (inl e) = (r, h.0.0, ap (def s v) e ∙ h.0.1, h.0.2, inl refl)
result_of v s (p ∷ ps) (r ∷ rs) q h (inr i) = let k = result_of v s ps rs q h.1 i in (k.0, k.1, k.2, k.3, inr k.4)

-- 5. the parameter x of b, the first that is at work there, is kept
module _ (g : Graph) (E : Frame) (s : Form) (kp : ℕ → List ℕ) (op : Work) (h : Inv g E s kp op) (v b x : ℕ)
    (ws : List (ℕ × ℕ))
    (seal : g.sealed b ≡ true) (at : op b ≡ (v, x) ∷ ws) (rs : List ℕ) (len : length rs ≡ length (g.preds b))
    (res : E.sup → Results v s (g.preds b) rs)
    (nd : Nodup (g.preds b)) (some_pred : g.preds b ≡ [] → ⊥) where
  abbrev s' : Form
  s' = with_args s (feed_all g b (g.preds b) rs s.args)

  abbrev kp' : ℕ → List ℕ
  kp' = put b (kp b ++ x ∷ []) kp

  abbrev op' : Work
  op' = put b ws op

  kp_at : (c : ℕ) → c ≡ b → kp' c ≡ kp c ++ x ∷ []
  kp_at c q = put_at b (kp b ++ x ∷ []) kp c q ∙ ap (λ (k : ℕ). kp k ++ x ∷ []) (sym q)

  kp_else : (c : ℕ) → c ≢ b → kp' c ≡ kp c
  kp_else c n = put_other b (kp b ++ x ∷ []) kp c n

  -- what a predecessor's destination got
  took : (p i : ℕ) → In p (g.preds b) → i < length (g.dests p) → get_or (g.dests p) i 0 ≡ b
      → (r : ℕ) × (s'.args p i ≡ s.args p i ++ r ∷ []) × Pairs p r (g.preds b) rs
  took p i ip lt q = all_here g b (g.preds b) rs s.args p i len nd ip (dest_yes (g.dests p) i b lt q)

  args_else : (p i : ℕ) → get_or (g.dests p) i 0 ≢ b → s'.args p i ≡ s.args p i
  args_else p i n = all_else g b (g.preds b) rs s.args p i (λ _. elim (bool? (is_dest (g.dests p) i b)) [ inl q ↦ absurd (n (dest_is (g.dests p) i b q).1) | inr q ↦ q ])

  -- the caller's arguments, then the builder's, where p's destination at i is b
  fed_at : (p i : ℕ) → In p (g.preds b) → i < length (g.dests p) → get_or (g.dests p) i 0 ≡ b
      → (r : List ℕ) × (s.args p i ≡ E.caller.args p i ++ r) × (length r ≡ length (kp b))
  fed_at p i ip lt q = rw q at (h.passed.fed p i lt (rw q seal) (rw q ip))

  -- the builder's, with one more
  past : (p i : ℕ) (r : List ℕ) (y : ℕ) → s.args p i ≡ E.caller.args p i ++ r → s'.args p i ≡ s.args p i ++ y ∷ []
      → drop (cut E p i) (s'.args p i) ≡ r ++ y ∷ []
  past p i r y e more = ap (drop (cut E p i)) (more ∙ ap (λ (l : List ℕ). l ++ y ∷ []) e ∙ append_assoc (E.caller.args p i) r (y ∷ []))
      ∙ drop_first (E.caller.args p i) (r ++ y ∷ [])

  new : E.sup → Edge g (cut E) s' kp' v b x
  new ok = kept seal (follow_root s.target s.next x (x_par g E s kp op h v b x ws seal at).root) (rw (kp_at b refl) (in_right x (kp b) (x ∷ []) (inl refl)))
      (λ p ip. let k = result_of v s (g.preds b) rs p (res ok) ip in (
        k.1,
        k.2,
        λ i lt q.
            let a = took p i ip lt q in
            let o = result_at v s (g.preds b) rs p a.0 (res ok) a.2 in
            let old = fed_at p i ip lt q in (
              a.0,
              rw (kp_at b refl, past p i old.0 a.0 old.1 a.1)
                  (arg_last (kp b) old.0 x a.0 (not_kept g E s kp op h v b x ws seal at b) old.2),
              o.2 ∙ ap (resolve s) (some_inj (sym o.1 ∙ k.2)),
            ),
      ))

  -- what was kept stays, with its arguments
  stays : (c e : ℕ) → In e (kp c) → (s.target e ≡ e) × In e (kp' c)
      × ((p i a : ℕ) → In p (g.preds c) → i < length (g.dests p) → get_or (g.dests p) i 0 ≡ c → arg_of (kp c) (drop (cut E p i) (s.args p i)) e ≡ some a
      → arg_of (kp' c) (drop (cut E p i) (s'.args p i)) e ≡ some a)
  stays c e i = elim (same? c b) [
    | inl q ↦ (
      kept_root g E s kp op h c e i,
      rw (kp_at c q) (in_left e (kp c) (x ∷ []) i),
      λ p j a ip lt d f.
          let o = took p j (rw q at ip) lt (d ∙ q) in
          let old = fed_at p j (rw q at ip) lt (d ∙ q) in
          let was = ap (drop (cut E p j)) old.1 ∙ drop_first (E.caller.args p j) old.0 in
          rw (kp_at c q, past p j old.0 o.0 old.1 o.1) (arg_more (kp c) (x ∷ []) old.0 (o.0 ∷ []) e a (rw was at f)),
    )
    | inr n ↦ (kept_root g E s kp op h c e i, rw (kp_else c n) i, λ p j a ip lt d f. rw (kp_else c n, args_else p j (λ u. n (sym d ∙ u))) f)
  ]

  -- the builder's parameters are the same
  moved : (c : ℕ) → kp' c ++ snds (pending g s' op' c) ≡ kp c ++ snds (pending g s op c)
  moved c = elim (same? c b) [
    | inl q ↦ rw (q, seal, put_same b ws op, kp_at b refl) (append_assoc (kp b) (x ∷ []) (snds ws) ∙ sym (ap (λ (l : List (ℕ × ℕ)). kp b ++ snds l) at))
    | inr n ↦ rw (put_other b ws op c n, kp_else c n) refl
  ]

  pub keep_inv : Inv g E s' kp' op'
  keep_inv = record {
    known = h.known;
    edge = λ ok w c e q. elim (h.edge ok w c e q) [
      | inl i ↦ elim (was_pending g E s kp op h v b x ws seal at w c e i) [ inl k ↦ inr (rw (k.0, k.1, k.2) (new ok)) | inr j ↦ inl j ]
      | inr k ↦ inr (edge_grow g (cut E) s s' kp kp' (grow_refl s) w c e (stays c e) k)
    ];
    first = λ ok w c e q empty. elim (h.first ok w c e q empty) [
      | inl i ↦ elim (was_pending g E s kp op h v b x ws seal at w c e i) [ inl k ↦ absurd (some_pred (rw k.1 at empty)) | inr j ↦ inl j ]
      | inr k ↦ inr k
    ];
    pend = λ w c z i. h.pend w c z (still_pending g E s kp op h v b x ws seal at w c z i);
    listed = record {
      split = λ c. rw (moved c) (h.listed.split c);
      pars = λ c z i. h.listed.pars c z (rw (moved c) at i);
      nodup = λ c. rw (moved c) (h.listed.nodup c);
      bare = λ c e. kp_else c (λ q. false_true e (ap g.sealed q ∙ seal)) ∙ h.listed.bare c e;
    };
    owned = h.owned;
    passed = record {
      fed = λ p i lt sl ip. elim (same? (get_or (g.dests p) i 0) b) [
        | inl q ↦ let o = took p i (rw q at ip) lt q in
            let old = h.passed.fed p i lt sl ip in (
              old.0 ++ o.0 ∷ [],
              o.1 ∙ ap (λ (l : List ℕ). l ++ o.0 ∷ []) old.1 ∙ append_assoc (E.caller.args p i) old.0 (o.0 ∷ []),
              omega (
                arith,
                length-append old.0 (o.0 ∷ []),
                old.2,
                ap length (kp_at (get_or (g.dests p) i 0) q),
                length-append
                    (kp (get_or (g.dests p) i 0)) (x ∷ []),
              ),
            )
        | inr n ↦ rw (args_else p i n, kp_else (get_or (g.dests p) i 0) n) (h.passed.fed p i lt sl ip)
      ];
      unfed = λ p i n.
          all_else g b (g.preds b) rs s.args p i (λ ip. elim (bool? (is_dest (g.dests p) i b)) [
            | inl q ↦ let d = dest_is (g.dests p) i b q in absurd (n d.0 (rw d.1 seal) (rw d.1 ip))
            | inr q ↦ q
          ]) ∙ h.passed.unfed p i n;
      there = h.passed.there;
      short = h.passed.short;
    };
    gave = h.gave;
    aliased = h.aliased;
  }
