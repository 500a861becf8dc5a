-- Demand 3 of the unit: each record's call gets what the last one left, so copies are all that is left to ask; the unit's
-- closing words are the course's.
use Prim.Native.Nat.{ℕ, ◌<◌}
use mathlib.Core.List.{List, [], ◌∷◌, ◌++◌}
use mathlib.Core.Path.{◌≡◌, refl, sym, ap, ◌∙◌, subst}
use Rattle.client_run.specs.declared.run.ClientRun.{ClientRun}
use Rattle.client_run.specs.declared.run.Stage.{Stage}
use Rattle.client_run.specs.declared.run.Stage.TheVariants as stage
use Rattle.client_run.specs.declared.run.Word.{Word}
use Rattle.client_run.specs.declared.run.Word.TheVariants.{Lodged, NotLodged, Fetched}
use Rattle.client_run.specs.Run.{order_name}
use Rattle.client_rules.specs.Rulings.{is_begun}
use Rattle.exchange.specs.Course.{
  Call,
  frame_arrives,
  file_put,
  begins,
  reply_arrives,
  no_reply,
  journal_handed,
  puts_away,
  takes_up,
  Course,
  start,
  exec,
  after,
  held_of,
}
use Rattle.exchange.specs.Demand3.{Premise, AllAllowed, OneExchangeNumber, Demand3, Outcome}
use Rattle.exchange.specs.Terms.{Booked}
use Rattle.exchange.proofs.Theorem.{demand3}
use Rattle.unit_state.specs.declared.record.Kind.{Kind}
use Rattle.unit_state.specs.declared.record.Kind.TheVariants as kind
use Rattle.unit_state.specs.Records.{run_count, call_of}
use Rattle.unit.specs.State.{State}
use Rattle.unit.specs.Call.{unit_call}
use Rattle.sessions.specs.Sessions.{
  fresh_unit,
  Records,
  none,
  more,
  unit_after,
  client_at,
  file_at,
  call_first,
  calls_of,
  Given,
  Copy,
  AtEach,
  Same,
  Sessions,
  Closes,
  SessionsClose,
}
use Rattle.sessions.proofs.Theorem.{sessions}

-- ---- the premises

-- demand 3's premise is the two, no more and no less
pub premise : (k : Call) (s : Course) → Given k s → Copy k s → Premise k s
premise (frame_arrives m a) s g c = (g.0, g.1, c)
premise (file_put rows mailboxes m file) s g c = g
premise (begins i c params l) s g _ = g
premise (reply_arrives i c reply l) s g d = (g, d)
premise (no_reply i c l) s g _ = g
premise (journal_handed i c row) s g _ = g
premise (puts_away m buffer) s g _ = g
premise (takes_up m image) s _ c = c

pub premise-parts : (k : Call) (s : Course) → Premise k s → Given k s × Copy k s
premise-parts (frame_arrives m a) s p = ((p.0, p.1), p.2)
premise-parts (file_put rows mailboxes m file) s p = (p, tt)
premise-parts (begins i c params l) s p = (p, tt)
premise-parts (reply_arrives i c reply l) s p = (p.0, p.1)
premise-parts (no_reply i c l) s p = (p, tt)
premise-parts (journal_handed i c row) s p = (p, tt)
premise-parts (puts_away m buffer) s p = (p, tt)
premise-parts (takes_up m image) s p = (tt, p)

pub allowed : (ks : List Call) (s : Course) → AtEach Given ks s → AtEach Copy ks s → AllAllowed ks s
allowed [] s g c = tt
allowed (k ∷ ks) s g c = (λ z. premise k s (g.0 z) (c.0 z), allowed ks (exec k s) g.1 c.1)

-- the records of the session
pub first-records : (rs ts : List (List ℕ)) → Records (rs ++ ts) → Records rs
first-records [] ts h = none
first-records (r ∷ rs) ts (more b e h) = more b e (first-records rs ts h)

-- ---- a session and its continuation

first-appended : (g : Kind) (u : State) (r : List ℕ) (ks ls : List Call) →
    call_first g u r (ks ++ ls) ≡ call_first g u r ks ++ ls
first-appended kind.Frame u r ks ls = refl
first-appended kind.File u r ks ls = refl
first-appended (kind.Run e) u r ks ls = refl
first-appended kind.Journal u r ks ls = refl
first-appended kind.Away u r ks ls = refl
first-appended kind.TakeUp u r ks ls = refl
first-appended kind.Image u r ks ls = refl
first-appended kind.ValueDay u r ks ls = refl
first-appended kind.MakeLine u r ks ls = refl
first-appended kind.PutIn u r ks ls = refl
first-appended kind.Counts u r ks ls = refl
first-appended kind.NoCall u r ks ls = refl

appended : (u : State) (rs ts : List (List ℕ)) → calls_of u (rs ++ ts) ≡ calls_of u rs ++ calls_of (unit_after u rs) ts
unfolding calls_of unit_after
appended u [] ts = refl
appended u (r ∷ rs) ts =
    ap (call_first (call_of r) u r) (appended (unit_call u r).state rs ts)
    ∙ first-appended (call_of r) u r (calls_of (unit_call u r).state rs) (calls_of (unit_after (unit_call u r).state rs) ts)

-- ---- the closing words of the unit's runs

module _ {u : State} {s : Course} (m : Same u s) (i : ℕ) (inside : i < run_count) where
  own : client_at u i ≡ s.runs i
  own = (m.runs i inside).client

  ended : (w : Word) → (client_at u i).stage ≡ stage.Ended w → (s.runs i).stage ≡ stage.Ended w
  ended w e = ap (λ (c : ClientRun). c.stage) (sym own) ∙ e

  held : (w : Word) → (client_at u i).stage ≡ stage.Ended w →
      held_of (client_at u i) (file_at u i) ≡ held_of (s.runs i) (s.files i)
  held w e =
      ap (λ (c : ClientRun). held_of c (file_at u i)) own
      ∙ ap (held_of (s.runs i)) ((m.runs i inside).file (ap (λ (x : Stage). is_begun x) (ended w e)))

closes : {u : State} {s : Course} → Same u s → Outcome s → Closes u s
closes {u} {s} m out = record {
  lodged = λ i h e. let x = out.lodged i (ended m i h Lodged e) in
      let o = x.1 in
      (x.0, (o.0, o.1, o.2, o.3, o.4 ∙ ap (λ (c : ClientRun). order_name c) (sym (own m i h))));
  not_lodged = λ i h e. out.not_lodged i (ended m i h NotLodged e);
  fetched = λ i h e. let x = out.fetched i (ended m i h Fetched e) in
      (x.0, x.1, x.2 ∙ ap (λ (c : ClientRun). c.subscriber) (sym (own m i h)), held m i h Fetched e ∙ x.3);
}

pub sessions-close : SessionsClose
unfolding SessionsClose Sessions Demand3
sessions-close rs ts records copies numbers =
    let all = allowed (calls_of fresh_unit (rs ++ ts)) start (sessions (rs ++ ts) records).given copies in
    let here = (sessions rs (first-records rs ts records)).same in
    let split = appended fresh_unit rs ts in
    let d = demand3 (calls_of fresh_unit rs) (calls_of (unit_after fresh_unit rs) ts)
    (subst (λ (l : List Call). AllAllowed l start) split all)
    (subst (λ (l : List Call). OneExchangeNumber (after l start)) split numbers) in (
      d.0,
      d.1,
      closes here d.0,
      λ i h e b. d.2 i (ended here i h NotLodged e) (subst (λ (l : List Call). Booked (after l start) i) split b),
    )
