-- What every number stored is below, of every form, and that each change of a form keeps it: what is stored was there before, or is new and counted.
-- Assumes nothing.
use Prim.Native.Nat.{ℕ, zero, suc, ◌<◌, ◌≤◌}
use mathlib.Core.Path.{◌≡◌, refl, sym, ap, ◌∙◌}
use mathlib.Core.Logic.{◌⊎◌, inl, inr, ⊎_map}
use mathlib.Core.Bool.{Bool, true, false, cond, ◌&&◌}
use mathlib.Core.Option.{Option, none, some}
use mathlib.Core.List.{List, [], ◌∷◌, ◌++◌, map}
use lib.Dec.{eqb, ltb}
use lib.ListN.{length, get_or}
use native.Mathlib.Omega.{arith}
use native.Mathlib.Nat.{le_trans}
use Rattle.entity.specs.Limits.{limits}
use Rattle.entity.specs.Types.{type_count, step_of}
use Rattle.entity.proofs.Laws.{step_plain}
use Rattle.definition.specs.Base.{put, put₂, or_else, every, has, without}
use Rattle.definition.specs.Form.{Graph, Form, Info, param, nought, def, with_args, with_params, with_owns, with_entry, made, caller, with_makes, Sort}
use Rattle.definition.specs.Form.{with_next, with_info}
use Rattle.definition.specs.Read.{Got, resolve, follow, type_of, mark_one, mark, alias, is_dest, feed, feed_all, settle_left, settle, place_block, make, write, record_binding}
use Rattle.definition.specs.Read.{emit_step, log_zero}
use Rattle.meaning.specs.Path.{In}
use Rattle.meaning.specs.Stored.{Nodup}
use Rattle.meaning.proofs.Causing.{Caused, new_caused, entered_caused, wider_caused, aliased_caused, emitted_caused}
use Rattle.meaning.proofs.Emit.{zero_info, Stepped, emit_is, emit_stepped}
use Rattle.meaning.proofs.Growing.{grown}
use Rattle.meaning.proofs.Maps.{bind_other, same?, put_other, put_at, put₂_at, put₂_other, here?, false_true, put₂_is, bool?, ltb_yes, ltb_no}
use Rattle.meaning.proofs.Lists.{nodup_snoc, in_cases, without_in, has_in, in_one, map_in}
use Rattle.meaning.proofs.Inv.{Grow, Param, nought_param, caller_param, Work}

-- the graph: its counts of blocks, types, branch marks, destinations, sealed marks, variables' marks
pub record Bounded (n : ℕ) (ts : List ℕ) (br : ℕ → Bool) (ds : ℕ → List ℕ) (sl mk : ℕ → Bool) : Type 0 where
  pub few : n ≤ limits.blocks
  pub vars : length ts ≤ limits.variables
  pub typed : (w : ℕ) → w < length ts → get_or ts w 0 < type_count
  pub dests : (p : ℕ) → length (ds p) ≤ limits.dests
  pub aims : (p b : ℕ) → In b (ds p) → b < n
  pub from : (p b : ℕ) → In b (ds p) → br p ≡ true
  pub branches : (p : ℕ) → br p ≡ true → p < n
  pub shut : (b : ℕ) → sl b ≡ true → b < n
  pub marked : (v : ℕ) → mk v ≡ true → v < length ts

abbrev pub Bounds : Graph → Type 0
Bounds g = Bounded g.blocks g.types g.branch g.dests g.sealed g.marks

-- values
pub record Valued (blocks : ℕ) (info : ℕ → Info) (target : ℕ → ℕ) (next : ℕ) : Type 0 where
  pub closed : (x : ℕ) → x < next → target x < next
  pub homes : (x : ℕ) → x < next → (info x).home < blocks
  pub types : (x : ℕ) → x < next → (info x).type < type_count

-- where values are recorded
pub record Recorded (variables blocks : ℕ) (entry own : ℕ → ℕ → Option ℕ) (args : ℕ → ℕ → List ℕ) (next : ℕ) : Type 0 where
  pub entries : (w b e : ℕ) → entry w b ≡ some e → e < next
  pub owns : (w b e : ℕ) → own w b ≡ some e → (w < variables) × (b < blocks) × (e < next)
  pub passed : (p i a : ℕ) → In a (args p i) → a < next

-- the zero log and the blocks placed
pub record Logs (call blocks : ℕ) (zeros : List (ℕ × ℕ)) (placed : List ℕ) : Type 0 where
  pub noted : (z : ℕ × ℕ) → In z zeros → (z.0 ≤ call) × (z.1 < blocks)
  pub once : Nodup placed
  pub within : (b : ℕ) → In b placed → b < blocks

-- the form
pub record Ranged (g : Graph) (s : Form) : Type 0 where
  pub valued : Valued g.blocks s.info s.target s.next
  pub recorded : Recorded (length g.types) g.blocks s.entry s.own s.args s.next
  pub logs : Logs g.call g.blocks s.zeros s.placed
  pub caused : Caused g s
  pub still : (b : ℕ) → g.sealed b ≡ true → s.pending b ≡ []
  pub unrecorded : (x : ℕ) → s.next ≤ x → s.recorded x ≡ false

pub def_below : (g : Graph) (s : Form) → Ranged g s → (w b e : ℕ) → def s w b ≡ some e → e < s.next
def_below g s h w b e q = by (s.own w b) refl q
  where
    by : (o : Option ℕ) → s.own w b ≡ o → or_else o (s.entry w b) ≡ some e → e < s.next
    by (some y) k r = (h.recorded.owns w b e (k ∙ r)).2
    by none k r = h.recorded.entries w b e r

pub follow_below : (t : ℕ → ℕ) (m : ℕ) → ((x : ℕ) → x < m → t x < m) → (n z : ℕ) → z < m → follow n t z < m
follow_below t m h zero z l = l
follow_below t m h (suc n) z l = by (eqb (t z) z) (follow_below t m h n (t z) (h z l))
  where
    by : (c : Bool) → follow n t (t z) < m → (elim c as (λ _. ℕ) [ true ↦ z | false ↦ follow n t (t z) ]) < m
    by true k = l
    by false k = k

-- arguments come from the results
feeds_in : (g : Graph) (b : ℕ) (ps rs : List ℕ) (us : ℕ → ℕ → List ℕ) (q i a : ℕ) → In a (feed_all g b ps rs us q i)
    → In a (us q i) ⊎ In a rs
feeds_in g b [] rs us q i a k = inl k
feeds_in g b (p ∷ ps) [] us q i a k = inl k
feeds_in g b (p ∷ ps) (r ∷ rs) us q i a k = elim (feeds_in g b ps rs (feed p b r (g.dests p) us) q i a k) [
  | inl j ↦ ⊎_map (λ u. u) inl (one (eqb q p && is_dest (g.dests p) i b) j)
  | inr j ↦ inr (inr j)
]
  where
    one : (c : Bool) → In a (cond c (us q i ++ r ∷ []) (us q i)) → In a (us q i) ⊎ (a ≡ r)
    one true j = ⊎_map (λ u. u) (in_one a r) (in_cases a (us q i) (r ∷ []) j)
    one false j = inl j

-- marking changes entries alone
pub mark_is : (v x : ℕ) (bs : List ℕ) (s : Form) → mark v x bs s ≡ with_entry s (mark v x bs s).entry
mark_is v x [] s = refl
mark_is v x (b ∷ bs) s = ap (mark_one v x b) (mark_is v x bs s)

mark_only : (v x : ℕ) (bs : List ℕ) (s : Form) (w b e : ℕ) → (mark v x bs s).entry w b ≡ some e → (s.entry w b ≡ some e) ⊎ (e ≡ x)
mark_only v x [] s w b e q = inl q
mark_only v x (c ∷ bs) s w b e q = elim (put₂_is v c x (mark v x bs s).entry w b e q) [
  | inl k ↦ inr k.2
  | inr o ↦ mark_only v x bs s w b e o
]

-- a block more is placed, unless it was
pub placed_logs : (call blocks : ℕ) (zeros : List (ℕ × ℕ)) (placed : List ℕ) → Logs call blocks zeros placed → (b : ℕ) → b < blocks
    → Logs call blocks zeros (cond (has b placed) placed (placed ++ b ∷ []))
placed_logs call blocks zeros placed h b lb = by (has b placed) refl
  where
    by : (c : Bool) → has b placed ≡ c → Logs call blocks zeros (cond c placed (placed ++ b ∷ []))
    by true e = h
    by false e = record {
      noted = h.noted;
      once = nodup_snoc placed b h.once (λ i. false_true e (has_in b placed i));
      within = λ c i. elim (in_cases c placed (b ∷ []) i) [ inl j ↦ h.within c j | inr j ↦ rw (in_one c b j) lb ];
    }

-- one more value; t are the targets afterwards
pub valued_more : {blocks next : ℕ} {info : ℕ → Info} {target : ℕ → ℕ} → Valued blocks info target next → (new : Info) → new.home < blocks
    → new.type < type_count → (t : ℕ → ℕ) → ((x : ℕ) → x < suc next → t x < suc next) → Valued blocks (put next new info) t (suc next)
valued_more {blocks} {next} {info} h new lb ty t closed = record {
  closed = closed;
  homes = λ x l. elim (same? x next) [
    | inl e ↦ rw (put_at next new info x e) lb
    | inr n ↦ rw (put_other next new info x n) (h.homes x (omega arith))
  ];
  types = λ x l. elim (same? x next) [
    | inl e ↦ rw (put_at next new info x e) ty
    | inr n ↦ rw (put_other next new info x n) (h.types x (omega arith))
  ];
}

-- the first step of a zero in b, which is no alias
valued_step : {blocks next m : ℕ} {info info' : ℕ → Info} {target : ℕ → ℕ} → Valued blocks info target next → (ty b : ℕ) → b < blocks
    → Stepped (step_of ty) b next m info info' → ((x : ℕ) → next ≤ x → target x ≡ x) → Valued blocks info' target m
valued_step {blocks} {next} {m} {info} {info'} {target} h ty b lb st fresh = record {
  closed = λ x l. elim (bool? (ltb x next)) [
    | inl e ↦ le_trans (h.closed x (ltb_yes x next e)) st.more
    | inr e ↦ rw (fresh x (ltb_no x next e)) l
  ];
  homes = λ x l. elim (bool? (ltb x next)) [
    | inl e ↦ rw (st.old x (ltb_yes x next e)) (h.homes x (ltb_yes x next e))
    | inr e ↦ rw (st.new x (ltb_no x next e) l).3 lb
  ];
  types = λ x l. elim (bool? (ltb x next)) [
    | inl e ↦ rw (st.old x (ltb_yes x next e)) (h.types x (ltb_yes x next e))
    | inr e ↦ let k = st.new x (ltb_no x next e) l in rw k.3 (step_plain ty k.0 k.1).known
  ];
}

module _ (g : Graph) (s : Form) (h : Ranged g s) where
  abbrev types : ℕ
  types = length g.types

  -- its own target, the others' as they were
  pub closed_more : s.target s.next ≡ s.next → (x : ℕ) → x < suc s.next → s.target x < suc s.next
  closed_more fresh x l = elim (same? x s.next) [ inl e ↦ rw (e, fresh) (omega arith) | inr n ↦ let k = h.valued.closed x (omega arith) in omega (arith, k) ]

  pub recorded_more : (n : ℕ) → s.next ≤ n → Recorded types g.blocks s.entry s.own s.args n
  recorded_more n l = record {
    entries = λ w b e q. le_trans (h.recorded.entries w b e q) l;
    owns = λ w b e q. let k = h.recorded.owns w b e q in (k.0, k.1, le_trans k.2 l);
    passed = λ p i a k. le_trans (h.recorded.passed p i a k) l;
  }

  -- the graph grows
  pub wider_ranged : (g' : Graph) → g.blocks ≤ g'.blocks → length g.types ≤ length g'.types → g.call ≤ g'.call
      → ((b : ℕ) → g'.sealed b ≡ g.sealed b) → Ranged g' s
  wider_ranged g' bl ty ca se = record {
    valued = record { closed = h.valued.closed; homes = λ x l. le_trans (h.valued.homes x l) bl; types = h.valued.types };
    recorded = record {
      entries = h.recorded.entries;
      owns = λ w b e q. let k = h.recorded.owns w b e q in (le_trans k.0 ty, le_trans k.1 bl, k.2);
      passed = h.recorded.passed;
    };
    logs = record {
      noted = λ z i. let k = h.logs.noted z i in (le_trans k.0 ca, le_trans k.1 bl);
      once = h.logs.once;
      within = λ b i. le_trans (h.logs.within b i) bl;
    };
    caused = wider_caused h.caused (length g'.types) ty;
    still = λ b z. h.still b (sym (se b) ∙ z);
    unrecorded = h.unrecorded;
  }

  pub place_ranged : (b : ℕ) → b < g.blocks → Ranged g (place_block b s)
  place_ranged b lb = record {
    valued = h.valued;
    recorded = h.recorded;
    logs = placed_logs g.call g.blocks s.zeros s.placed h.logs b lb;
    caused = h.caused;
    still = h.still;
    unrecorded = h.unrecorded;
  }

  pub make_ranged : (m y b : ℕ) → b < g.blocks → y < type_count → s.target s.next ≡ s.next
      → Ranged g (make made y b (place_block b (with_makes s m)))
  make_ranged m y b lb ly fresh = record {
    valued = valued_more h.valued (record { sort = made; type = y; home = b }) lb ly s.target (closed_more fresh);
    recorded = recorded_more (suc s.next) (omega arith);
    logs = placed_logs g.call g.blocks s.zeros s.placed h.logs b lb;
    caused = new_caused h.caused (record { sort = made; type = y; home = b }) (λ q. absurd (made_param q)) made_nought;
    still = h.still;
    unrecorded = λ x l. h.unrecorded x (omega arith);
  }
    where
      made_param : ◌≡◌ {A = Sort} made param → ⊥
      made_param q = let z : ◌≡◌ {A = ℕ} 0 1 = cc in omega arith

      made_nought : ◌≡◌ {A = Sort} made nought → ⊥
      made_nought q = let z : ◌≡◌ {A = ℕ} 0 1 = cc in omega arith

  -- a caller's parameter of b, where ps are the parameters and os the counts afterwards
  pub own_ranged : (m y b : ℕ) (ps : ℕ → List ℕ) (os : ℕ → ℕ) → b < g.blocks → y < type_count → s.target s.next ≡ s.next
      → Ranged g (with_owns (with_params (make caller y b (with_makes s m)) ps) os)
  own_ranged m y b ps os lb ly fresh = record {
    valued = valued_more h.valued (record { sort = caller; type = y; home = b }) lb ly s.target (closed_more fresh);
    recorded = recorded_more (suc s.next) (omega arith);
    logs = h.logs;
    caused = new_caused h.caused (record { sort = caller; type = y; home = b }) (λ q. absurd (caller_param refl q)) caller_nought;
    still = h.still;
    unrecorded = λ x l. h.unrecorded x (omega arith);
  }
    where
      caller_nought : ◌≡◌ {A = Sort} caller nought → ⊥
      caller_nought q = let z : ◌≡◌ {A = ℕ} 0 1 = cc in omega arith

  -- an argument x
  pub give_ranged : (p i x : ℕ) → x < s.next → Ranged g (with_args s (put₂ p i (s.args p i ++ x ∷ []) s.args))
  give_ranged p i x lx = record {
    valued = h.valued;
    recorded = record {
      entries = h.recorded.entries;
      owns = h.recorded.owns;
      passed = λ q j a k. elim (here? q p j i) [
        | inl e ↦ elim (in_cases a (s.args p i) (x ∷ []) (rw (put₂_at p i (s.args p i ++ x ∷ []) s.args q j e.0 e.1) at k)) [
          | inl u ↦ h.recorded.passed p i a u
          | inr u ↦ rw (in_one a x u) lx
        ]
        | inr n ↦ h.recorded.passed q j a (rw (put₂_other p i (s.args p i ++ x ∷ []) s.args q j n) at k)
      ];
    };
    logs = h.logs;
    caused = h.caused;
    still = h.still;
    unrecorded = h.unrecorded;
  }

  pub write_ranged : (v b x : ℕ) → v < length g.types → b < g.blocks → x < s.next → Ranged g (record_binding g v x (write v b x s))
  write_ranged v b x lv lb lx = record {
    valued = h.valued;
    recorded = record {
      entries = h.recorded.entries;
      owns = λ w c e q. elim (put₂_is v b x s.own w c e q) [
        | inl k ↦ (rw k.0 lv, rw k.1 lb, rw k.2 lx)
        | inr o ↦ h.recorded.owns w c e o
      ];
      passed = h.recorded.passed;
    };
    logs = h.logs;
    caused = h.caused;
    still = h.still;
    unrecorded = λ y l. bind_other (g.marks v) x s.recorded y (omega arith) ∙ h.unrecorded y l;
  }

  pub mark_ranged : (v x : ℕ) (bs : List ℕ) → x < s.next → Grow s (mark v x bs s) → Ranged g (mark v x bs s)
  mark_ranged v x bs lx up = rw (mark_is v x bs s) (record {
    valued = h.valued;
    recorded = record {
      entries = λ w b e q. elim (mark_only v x bs s w b e q) [ inl o ↦ h.recorded.entries w b e o | inr o ↦ rw o lx ];
      owns = h.recorded.owns;
      passed = h.recorded.passed;
    };
    logs = h.logs;
    caused = entered_caused h.caused (mark v x bs s).entry up.entry;
    still = h.still;
    unrecorded = h.unrecorded;
  })

  -- a new parameter for v on c, where ws waits afterwards
  pub grown_ranged : (v c : ℕ) (ws : Work) → v < length g.types → c < g.blocks → type_of g v < type_count
      → s.target s.next ≡ s.next
      → Grow s (grown g s v c ws) → ((b : ℕ) → g.sealed b ≡ true → ws b ≡ []) → Ranged g (grown g s v c ws)
  grown_ranged v c ws lv lc ty fresh up quiet = record {
    valued = valued_more h.valued new lc ty s.target (closed_more fresh);
    recorded = record {
      entries = λ w b e q. elim (put₂_is v c s.next s.entry w b e q) [ inl k ↦ rw k.2 (omega arith) | inr o ↦ more.entries w b e o ];
      owns = more.owns;
      passed = more.passed;
    };
    logs = h.logs;
    caused = new_caused (entered_caused h.caused (put₂ v c (some s.next) s.entry) up.entry) new
        (λ _. (v, lv, put₂_at v c (some s.next) s.entry v c refl refl)) (λ q. nought_param q refl);
    still = quiet;
    unrecorded = λ y l. bind_other (g.marks v) s.next s.recorded y (omega arith) ∙ h.unrecorded y (omega arith);
  }
    where
      new : Info
      new = record { sort = param; type = type_of g v; home = c }

      more : Recorded (length g.types) g.blocks s.entry s.own s.args (suc s.next)
      more = recorded_more (suc s.next) (omega arith)

  -- settling the parameter x of b
  module _ (b x : ℕ) (lb : b < g.blocks) (par : Param s b x) (fresh : (y : ℕ) → s.next ≤ y → s.target y ≡ y) (rs : List ℕ)
      (low : (r : ℕ) → In r rs → r < s.next) where
    abbrev Fine : Got → Type 0
    Fine r = Ranged g r.1 × (r.0 < r.1.next)

    -- a zero, in one step or two: its values up to m, and what they are
    zero_fine : (m : ℕ) (info' : ℕ → Info) → Stepped (step_of (s.info x).type) b s.next m s.info info'
        → Fine (m, alias b x m (make nought (s.info x).type b (with_info (with_next (log_zero g.call b (place_block b s)) m) info')))
    zero_fine m info' st = (
      record {
        valued = valued_more (valued_step h.valued ty b lb st fresh) (zero_info ty b) lb (h.valued.types x par.below) (put x m s.target)
            (λ y l. elim (same? y x) [
              | inl e ↦ rw (put_at x m s.target y e) (omega arith)
              | inr n ↦ rw (put_other x m s.target y n) (closed_to y l)
            ]);
        recorded = recorded_more (suc m) (omega (arith, st.more));
        logs =
            let l = placed_logs g.call g.blocks s.zeros s.placed h.logs b lb in
            record {
              noted = λ z i. elim (in_cases z s.zeros ((g.call, b) ∷ []) i)
                  [ inl j ↦ l.noted z j | inr j ↦ rw (in_one z (g.call, b) j) (omega arith, lb) ];
              once = l.once;
              within = l.within;
            };
        caused = emitted_caused h.caused x b ty m info' st par.below par.root par.sort par.home;
        still = h.still;
        unrecorded = λ y l. h.unrecorded y (omega arith);
      },
      omega arith,
    )
      where
        ty : ℕ
        ty = (s.info x).type

        closed_to : (y : ℕ) → y < suc m → s.target y < suc m
        closed_to y l = elim (bool? (ltb y s.next)) [
          | inl e ↦ let k = h.valued.closed y (ltb_yes y s.next e) in omega (arith, k, st.more)
          | inr e ↦ rw (fresh y (ltb_no y s.next e)) l
        ]

    zero_ranged : Fine (settle_left g b x rs s [])
    zero_ranged =
        let s₁ = log_zero g.call b (place_block b s) in
        let o = step_of (s.info x).type in
        rw (emit_is o b s₁) (zero_fine (emit_step o b s₁).next (emit_step o b s₁).info (emit_stepped o b s₁))

    alias_ranged : (y : ℕ) → y < s.next → Fine (y, alias b x y s)
    alias_ranged y ly = (
      record {
        valued = record {
          closed = λ z l. elim (same? z x) [
            | inl e ↦ rw (put_at x y s.target z e) ly
            | inr n ↦ rw (put_other x y s.target z n) (h.valued.closed z l)
          ];
          homes = h.valued.homes;
          types = h.valued.types;
        };
        recorded = h.recorded;
        logs = h.logs;
        caused = aliased_caused h.caused x y par.root;
        still = h.still;
        unrecorded = h.unrecorded;
      },
      ly,
    )

    feed_ranged : Fine (x, with_args s (feed_all g b (g.preds b) rs s.args))
    feed_ranged = (
      record {
        valued = h.valued;
        recorded = record {
          entries = h.recorded.entries;
          owns = h.recorded.owns;
          passed = λ p i a k. elim (feeds_in g b (g.preds b) rs s.args p i a k) [ inl j ↦ h.recorded.passed p i a j | inr j ↦ low a j ];
        };
        logs = h.logs;
        caused = h.caused;
        still = h.still;
        unrecorded = h.unrecorded;
      },
      par.below,
    )

    pub settle_ranged : Ranged g (settle g b x rs s).1 × ((settle g b x rs s).0 < (settle g b x rs s).1.next)
    settle_ranged = by (without x (map (resolve s) rs)) refl
      where
        by : (left : List ℕ) → without x (map (resolve s) rs) ≡ left → Fine (settle_left g b x rs s left)
        by [] e = zero_ranged
        by (y ∷ ys) e = pick (every (eqb y) ys)
          where
            ly : y < s.next
            ly =
                let k = map_in (resolve s) rs y (without_in x (map (resolve s) rs) y (rw e (inl refl))).0 in
                rw k.2 (follow_below s.target s.next h.valued.closed s.next k.0 (low k.0 k.1))

            pick : (c : Bool) → Fine (cond c (y, alias b x y s) (x, with_args s (feed_all g b (g.preds b) rs s.args)))
            pick true = alias_ranged y ly
            pick false = feed_ranged
