-- A new parameter keeps the invariant: it is an entry that was not there, and waits or is at work until it is settled. Assumes nothing.
use Prim.Native.Nat.{ℕ, ◌<◌, suc}
use mathlib.Core.Path.{◌≡◌, refl, sym, ap, ◌∙◌}
use mathlib.Core.Logic.{⊎_map, ◌≢◌, inl, inr}
use mathlib.Core.Bool.{cond}
use mathlib.Core.Option.{Option, none, some}
use mathlib.Core.List.{List, [], ◌∷◌, ◌++◌, append_assoc}
use lib.ListN.{length}
use native.Mathlib.Omega.{arith}
use Rattle.definition.specs.Read.{new_param, resolve, type_of}
use Rattle.definition.specs.Form.{with_pending, Graph, Form, Info, param}
use Rattle.meaning.specs.Path.{In}
use Rattle.meaning.proofs.Maps.{same?, put_same, put_other, put_at, put₂_at, put₂_other, here?, some_none, put₂_is}
use Rattle.meaning.proofs.Alias.{follow_more}
use Rattle.meaning.proofs.Lists.{in_cases, nodup_snoc, snds, snds_append, in_one, in_right, in_left}
use Rattle.meaning.proofs.Inv.{Grow, pending, Param, Inv, edge_grow, nought_grow, pending_par, kept_root, param_grow, Work, aliased_more, owned_more}
use Rattle.meaning.proofs.Inv.{gave_more}
use Rattle.meaning.proofs.Inv.{caller_param, Frame, cut}

-- the form with a new parameter for v on c, where ws waits
abbrev pub grown : Graph → Form → ℕ → ℕ → Work → Form
grown g s v c ws = with_pending (new_param g v c s) ws

-- 4. a new parameter x for v on c
module _ (g : Graph) (E : Frame) (s : Form) (kp : ℕ → List ℕ) (op op' : Work) (h : Inv g E s kp op) (v c : ℕ)
    (ws : Work)
    (blank : s.entry v c ≡ none) (lv : v < length g.types) (lc : c < g.blocks)
    (elsewhere : (b : ℕ) → b ≢ c → cond (g.sealed b) (op' b) (ws b) ≡ pending g s op b)
    (there : cond (g.sealed c) (op' c) (ws c) ≡ pending g s op c ++ (v, s.next) ∷ []) where
  abbrev x : ℕ
  x = s.next

  abbrev new : Info
  new = record { sort = param; type = type_of g v; home = c }

  abbrev now : Form
  now = grown g s v c ws

  now_res : (z : ℕ) → resolve now z ≡ resolve s z
  now_res z = follow_more s.target s.next (suc s.next) z h.aliased.tree (omega arith)

  pub grown_grow : Grow s (grown g s v c ws)
  grown_grow = record {
    own = λ w b. refl;
    entry = λ w b e q. elim (here? w v b c) [
      | inl k ↦ absurd (some_none (rw (k.0, k.1) at q) blank)
      | inr n ↦ put₂_other v c (some x) s.entry w b n ∙ q
    ];
    res = λ y z q. now_res y ∙ q ∙ sym (now_res z);
    info = λ y l. put_other s.next new s.info y (omega arith);
    more = omega arith;
  }

  old_par : (b y : ℕ) → Param s b y → Param now b y
  old_par b y r = param_grow s now b y grown_grow r.root r

  new_par : Param now c x
  new_par =
      let i = put_same s.next new s.info in
      record { home = ap (λ (j : Info). j.home) i; sort = ap (λ (j : Info). j.sort) i; root = h.aliased.fresh x (omega arith); below = omega arith }

  at_c : (b : ℕ) → b ≡ c → pending g now op' b ≡ pending g s op b ++ (v, x) ∷ []
  at_c b q = ap (pending g now op') q ∙ there ∙ ap (λ (k : ℕ). pending g s op k ++ (v, x) ∷ []) (sym q)

  -- what was pending is, and the new one too
  still : (w b e : ℕ) → In (w, e) (pending g s op b) → In (w, e) (pending g now op' b)
  still w b e i = elim (same? b c) [ inl q ↦ rw (at_c b q) (in_left (w, e) (pending g s op b) ((v, x) ∷ []) i) | inr n ↦ rw (elsewhere b n) i ]

  also : (w b e : ℕ) → (w ≡ v) × (b ≡ c) × (e ≡ x) → In (w, e) (pending g now op' b)
  also w b e k = rw (k.0, k.2, at_c b k.1) (in_right (v, x) (pending g s op b) ((v, x) ∷ []) (inl refl))

  old_pend : (w b y : ℕ) → In (w, y) (pending g s op b) → (now.entry w b ≡ some y) × ((now.info y).type ≡ type_of g w)
  old_pend w b y j =
      let k = h.pend w b y j in (
        grown_grow.entry w b y k.0,
        ap (λ (k : Info). k.type) (grown_grow.info y (h.listed.pars b y (pending_par g E s kp op h w b y j)).below) ∙ k.1,
      )

  -- the builder's parameters, with the new one
  built : (b : ℕ) → b ≡ c → kp b ++ snds (pending g now op' b) ≡ (kp b ++ snds (pending g s op b)) ++ x ∷ []
  built b q = ap (λ (l : List (ℕ × ℕ)). kp b ++ snds l) (at_c b q) ∙ ap (λ (l : List ℕ). kp b ++ l) (snds_append (pending g s op b) ((v, x) ∷ []))
      ∙ sym (append_assoc (kp b) (snds (pending g s op b)) (x ∷ []))

  pub grown_inv : Inv g E (grown g s v c ws) kp op'
  grown_inv = record {
    known = λ w b e q. elim (put₂_is v c x s.entry w b e q) [ inl k ↦ (rw k.0 lv, rw k.1 lc) | inr o ↦ h.known w b e o ];
    edge = λ ok w b e q. elim (put₂_is v c x s.entry w b e q) [
      | inl k ↦ inl (also w b e k)
      | inr o ↦ ⊎_map (still w b e) (edge_grow g (cut E) s now kp kp grown_grow w b e (λ i. (kept_root g E s kp op h b e i, i, λ _ _ _ _ _ _ a. a)))
          (h.edge ok w b e o)
    ];
    first = λ ok w b e q empty. elim (put₂_is v c x s.entry w b e q) [
      | inl k ↦ inl (also w b e k)
      | inr o ↦ ⊎_map (still w b e) (nought_grow s now (type_of g w) b e grown_grow (now_res e)) (h.first ok w b e o empty)
    ];
    pend = λ w b y i. elim (same? b c) [
      | inl q ↦ elim (in_cases (w, y) (pending g s op b) ((v, x) ∷ []) (rw (at_c b q) at i)) [
        | inl j ↦ old_pend w b y j
        | inr j ↦ let k = in_one (w, y) (v, x) j in
            let kw : w ≡ v = ap (λ (p : ℕ × ℕ). p.0) k in
            let ky : y ≡ x = ap (λ (p : ℕ × ℕ). p.1) k in
            (put₂_at v c (some x) s.entry w b kw q ∙ ap {B = Option ℕ} some (sym ky), ap (λ (j : Info). j.type) (put_at s.next new s.info y ky) ∙ ap (type_of g) (sym kw))
      ]
      | inr n ↦ old_pend w b y (rw (elsewhere b n) at i)
    ];
    listed = record {
      split = λ b. elim (same? b c) [
        | inl q ↦ put_at c (s.params c ++ x ∷ []) s.params b q ∙ ap (λ (k : ℕ). s.params k ++ x ∷ []) (sym q) ∙ ap (λ (l : List ℕ). l ++ x ∷ []) (h.listed.split b)
            ∙ append_assoc (E.caller.params b) (kp b ++ snds (pending g s op b)) (x ∷ []) ∙ ap (λ (l : List ℕ). E.caller.params b ++ l) (sym (built b q))
        | inr n ↦ rw (put_other c (s.params c ++ x ∷ []) s.params b n, elsewhere b n) (h.listed.split b)
      ];
      pars = λ b y i. elim (same? b c) [
        | inl q ↦ elim (in_cases y (kp b ++ snds (pending g s op b)) (x ∷ []) (rw (built b q) at i)) [
          | inl j ↦ old_par b y (h.listed.pars b y j)
          | inr j ↦ rw (q, in_one y x j) new_par
        ]
        | inr n ↦ old_par b y (h.listed.pars b y (rw (elsewhere b n) at i))
      ];
      nodup = λ b. elim (same? b c) [
        | inl q ↦ rw (built b q) (nodup_snoc (kp b ++ snds (pending g s op b)) x (h.listed.nodup b) (λ i. omega (arith, (h.listed.pars b x i).below)))
        | inr n ↦ rw (elsewhere b n) (h.listed.nodup b)
      ];
      bare = h.listed.bare;
    };
    owned = owned_more h.owned new (λ e. caller_param e refl);
    passed = h.passed;
    gave = gave_more h.owned h.passed.short h.gave new;
    aliased = aliased_more h.aliased new;
  }
