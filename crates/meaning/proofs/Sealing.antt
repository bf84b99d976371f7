-- Sealing a block keeps the invariant: with the mark, what waited is at work, and is settled in turn. Assumes nothing.
use Prim.Native.Nat.{ℕ, ◌<◌}
use mathlib.Core.Path.{◌≡◌, refl, sym, ap, ◌∙◌, subst}
use mathlib.Core.Logic.{⊎_map, ◌≢◌, inl, inr}
use mathlib.Core.Bool.{true, false}
use mathlib.Core.List.{List, [], ◌∷◌, append-nil}
use lib.ListN.{length, get_or}
use native.Mathlib.Omega.{arith}
use Rattle.definition.specs.Base.{put}
use Rattle.definition.specs.Form.{Graph, Form}
use Rattle.definition.specs.Read.{set_pending, fill, read, depth, settle_pending}
use Rattle.definition.specs.Session.{mark_sealed, seal_form}
use Rattle.meaning.specs.Path.{In}
use Rattle.meaning.proofs.Maps.{same?, put_same, put_other, false_true, put_id, put_put, put_at}
use Rattle.meaning.proofs.Facts.{Edge, same, kept}
use Rattle.meaning.proofs.Inv.{Grow, grow_refl, grow_trans, pending, Inv, Work, Frame, cut}
use Rattle.meaning.proofs.Lacking.{lacks, lacks_le}
use Rattle.meaning.proofs.Reading.{Sound, filled, reads, Busy}

abbrev pub idle : Work
idle b = []

pub shallow : (v : ℕ) (s : Form) (g : Graph) → lacks v s g.blocks < depth g
shallow v s g = omega (arith, lacks_le v s g.blocks)

pub record Sealed (g : Graph) (E : Frame) (s s' : Form) : Type 0 where
  pub kp : ℕ → List ℕ
  pub inv : Inv g E s' kp idle
  pub grow : Grow s s'

module _ (g : Graph) (E : Frame) (G : Sound g) (b : ℕ) (seal : g.sealed b ≡ true) where
  -- the pending variables in turn
  all_settled : (ws : List (ℕ × ℕ)) (s : Form) (kp : ℕ → List ℕ) → Inv g E s kp (put b ws idle) → Sealed g E s (settle_pending g b ws s)
  all_settled [] s kp h = record { kp = kp; inv = subst (λ (f : Work). Inv g E s kp f) (put_id b idle) h; grow = grow_refl s }
  all_settled (w ∷ ws) s kp h =
      let v = w.0 in
      let one = filled g G v E (depth g) (read (depth g) g v) (reads g G v lv E (depth g)) b w.1 ws s kp (put b (w ∷ ws) idle) seal (put_same b (w ∷ ws) idle) h busy (shallow v s g) in
      let s' = (fill (read (depth g) g v) g b w.1 s).1 in
      let rest = all_settled ws s' one.kp (subst (λ (f : Work). Inv g E s' one.kp f) (put_put b ws (w ∷ ws) idle) one.inv) in
      record { kp = rest.kp; inv = rest.inv; grow = grow_trans s s' (settle_pending g b ws s') one.grow rest.grow }
    where
      here : In (w.0, w.1) (pending g s (put b (w ∷ ws) idle) b)
      here = rw (seal, put_same b (w ∷ ws) idle) (inl refl)

      lv : w.0 < length g.types
      lv = (h.known w.0 b w.1 (h.pend w.0 b w.1 here).0).0

      busy : Busy g w.0 s (put b (w ∷ ws) idle)
      busy c e = elim (same? c b) [ inl q ↦ inr (w.1, rw q (h.pend w.0 b w.1 here).0) | inr n ↦ inl (put_other b (w ∷ ws) idle c n) ]

-- the mark alone: what waited is at work
module _ (g : Graph) (E : Frame) (s : Form) (kp : ℕ → List ℕ) (h : Inv g E s kp idle) (b : ℕ) (unsealed : g.sealed b ≡ false) where
  abbrev g' : Graph
  g' = mark_sealed g b

  abbrev s' : Form
  s' = set_pending b [] s

  abbrev op' : Work
  op' = put b (s.pending b) idle

  else_sealed : (c : ℕ) → c ≢ b → g'.sealed c ≡ g.sealed c
  else_sealed c n = put_other b true g.sealed c n

  -- the same is pending
  alike : (c : ℕ) → pending g' s' op' c ≡ pending g s idle c
  alike c = elim (same? c b) [
    | inl q ↦ rw (q, put_same b true g.sealed, put_same b (s.pending b) idle, unsealed)
    | inr n ↦ rw (else_sealed c n, put_other b (s.pending b) idle c n, put_other b [] s.pending c n)
  ]

  sealed_more : (c : ℕ) → g.sealed c ≡ true → g'.sealed c ≡ true
  sealed_more c e = elim (same? c b) [ inl q ↦ put_at b true g.sealed c q | inr n ↦ else_sealed c n ∙ e ]

  regraph : (w c e : ℕ) → Edge g (cut E) s kp w c e → Edge g' (cut E) s' kp w c e
  regraph w c e (same z f) = same (sealed_more c z) f
  regraph w c e (kept z r x f) = kept (sealed_more c z) r x f

  pub marked_inv : Inv (mark_sealed g b) E (set_pending b [] s) kp (put b (s.pending b) idle)
  marked_inv = record {
    known = h.known;
    edge = λ ok w c e q. ⊎_map (λ i. rw (alike c) i) (regraph w c e) (h.edge ok w c e q);
    first = λ ok w c e q empty. ⊎_map (λ i. rw (alike c) i) (λ k. k) (h.first ok w c e q empty);
    pend = λ w c x i. h.pend w c x (rw (alike c) at i);
    listed = record {
      split = λ c. rw (alike c) (h.listed.split c);
      pars = λ c x i. h.listed.pars c x (rw (alike c) at i);
      nodup = λ c. rw (alike c) (h.listed.nodup c);
      bare = λ c e. elim (same? c b) [ inl q ↦ absurd (false_true e (put_at b true g.sealed c q)) | inr n ↦ h.listed.bare c (sym (else_sealed c n) ∙ e) ];
    };
    owned = h.owned;
    passed = record {
      fed = λ p i lt sl ip. let d = get_or (g.dests p) i 0 in elim (same? d b) [
        | inl q ↦ (
          [],
          h.passed.unfed p i (λ _ z _. false_true unsealed (rw q at z))
              ∙ sym (append-nil (E.caller.args p i)),
          ap length (sym (h.listed.bare d (rw q unsealed))),
        )
        | inr n ↦ h.passed.fed p i lt (sym (else_sealed d n) ∙ sl) ip
      ];
      unfed = λ p i n. h.passed.unfed p i (λ lt sl ip. n lt (sealed_more (get_or (g.dests p) i 0) sl) ip);
      there = h.passed.there;
      short = h.passed.short;
    };
    gave = h.gave;
    aliased = h.aliased;
  }

  pub sealed_one : Sound g → Sealed (mark_sealed g b) E s (seal_form g s b)
  sealed_one G =
      let r = all_settled g' E G b (put_same b true g.sealed) (s.pending b) s' kp marked_inv in
      record { kp = r.kp; inv = r.inv; grow = r.grow }
