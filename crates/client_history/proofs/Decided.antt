-- The run that a decision leaves where its request is written: what it has of the run before, and that it keeps the
-- course. Assumes nothing.
use Prim.Native.Nat.{ℕ, ◌+◌, ◌*◌, ◌≤◌}
use mathlib.Core.Logic.{inl, inr}
use mathlib.Core.Path.{◌≡◌, refl, ap, ◌∙◌}
use native.Mathlib.Omega.{arith}
use Rattle.frame_table.specs.declared.fields.Fields.{Fields}
use Rattle.message.specs.Limits.{max_attempts}
use Rattle.client_run.specs.declared.run.ClientRun.{ClientRun}
use Rattle.client_run.specs.declared.run.Decision.{Decision}
use Rattle.client_run.specs.declared.run.Decision.TheVariants.{Ignore, Opened, Advance, Return, Repeat, Close}
use Rattle.message.specs.declared.directions.Direction.{Direction}
use Rattle.message.specs.declared.directions.Direction.TheVariants.{Upload, Download}
use Rattle.client_run.specs.declared.run.Step.TheVariants as step
use Rattle.client_run.specs.NextRun.{go_on, repeated, learned, holding, ended}
use Rattle.client_run.proofs.Apart.{not-both, not-opening-segment, not-opening-receipt}
use Rattle.client_rules.proofs.Causes.{Cause, upload-point, taken-below, brought, opens}
use Rattle.client_rules.proofs.Causes as cause
use Rattle.client_rules.proofs.Feasible.{repeat-fits, return-left}
use Rattle.client_history.specs.Bounds.{
  UploadCourse,
  DownloadPlace,
  DownloadCourse,
  Course,
  uploading,
  opening,
  downloading,
}
use Rattle.client_history.proofs.Course.{
  more,
  up-segments,
  up_go,
  up-learned,
  down-opened,
  down-brought,
  course-repeated,
}
use Rattle.client_history.proofs.NextRuns.{
  holding-upload,
  Same,
  same,
  learned-same,
  learned-length,
  held_same,
}

-- the decisions that issue a request
abbrev pub Issuing : Decision → Type 0
Issuing Ignore = ⊥
Issuing Opened = Unit {0}
Issuing Advance = Unit {0}
Issuing (Return s) = Unit {0}
Issuing Repeat = Unit {0}
Issuing (Close w) = ⊥

-- the run that a decision leaves where its request is written
abbrev pub next_of : Decision → ClientRun → Fields → ℕ → ClientRun
next_of Ignore c r d = c
next_of Opened c r d =
    let k = learned c.direction r c in
    go_on k.segment k.repeats (holding d k)
next_of Advance c r d = go_on c.segment c.repeats (holding d c)
next_of (Return s) c r d = go_on s (c.repeats + 1) c
next_of Repeat c r d = repeated c
next_of (Close w) c r d = ended w c

-- ---- what it has of the run before

-- "Each request takes the next exchange number"
pub record Next (n c : ClientRun) : Type 0 where
  pub stage : n.stage ≡ c.stage
  pub direction : n.direction ≡ c.direction
  pub subscriber : n.subscriber ≡ c.subscriber
  pub exchange : n.exchange ≡ c.exchange + 1

goes-next : (k repeats : ℕ) (h c : ClientRun) → Same h c → Next (go_on k repeats h) c
unfolding go_on
goes-next k repeats h c s = record {
  stage = s.stage;
  direction = s.direction;
  subscriber = s.subscriber;
  exchange = ap (λ (x : ℕ). x + 1) s.exchange;
}

pub next-of : (decision : Decision) → Issuing decision → (c : ClientRun) (r : Fields) (d : ℕ)
    → Next (next_of decision c r d) c
unfolding repeated
next-of Ignore i c r d = absurd i
next-of Opened i c r d =
    let k = learned c.direction r c in
    goes-next k.segment k.repeats (holding d k) c (held_same d k c (learned-same c.direction r c))
next-of Advance i c r d = goes-next c.segment c.repeats (holding d c) c (held_same d c c (same c))
next-of (Return s) i c r d = goes-next s (c.repeats + 1) c c (same c)
next-of Repeat i c r d = record { stage = refl; direction = refl; subscriber = refl; exchange = refl }
next-of (Close w) i c r d = absurd i

-- an upload's payload stays as long as it was
pub next-length : (decision : Decision) → Issuing decision → (c : ClientRun) (r : Fields) (d : ℕ) → c.direction ≡ Upload
    → (next_of decision c r d).length ≡ c.length
unfolding go_on repeated
next-length Ignore i c r d w = absurd i
next-length Opened i c r d w =
    let k = learned c.direction r c in
    ap (λ (h : ClientRun). h.length) (holding-upload k ((learned-same c.direction r c).direction ∙ w) d)
    ∙ learned-length c.direction r c
next-length Advance i c r d w = ap (λ (h : ClientRun). h.length) (holding-upload c w d)
next-length (Return s) i c r d w = refl
next-length Repeat i c r d w = refl
next-length (Close u) i c r d w = absurd i

-- "These repeats and returns number at most five"
pub next-repeats : (decision : Decision) → Issuing decision → (c : ClientRun) (r : Fields) (d : ℕ) → Cause c r d decision
    → c.repeats ≤ max_attempts → (next_of decision c r d).repeats ≤ max_attempts
unfolding go_on repeated
next-repeats Ignore i c r d k few = absurd i
next-repeats Opened i c r d k few = omega (arith, (learned-same c.direction r c).repeats)
next-repeats Advance i c r d k few = few
next-repeats (Return s) i c r d k few = omega (arith, return-left c r d s k)
next-repeats Repeat i c r d k few = omega (arith, repeat-fits c r d k)
next-repeats (Close w) i c r d k few = absurd i

-- ---- the course

module _ (c : ClientRun) (q : ℕ) (r : Fields) (d : ℕ) where
  -- an open download is past its opening
  down-opened-not : {A : Type 0} → DownloadCourse c q → c.step ≡ step.Opening → A
  down-opened-not e s = at e.place
    where
      at : {A : Type 0} → DownloadPlace c.step c.segment c.segments → A
      at (inl p) = not-opening-segment s p.0
      at (inr p) = not-opening-receipt s p.0

  up-opened : UploadCourse c q → c.step ≡ step.Opening
      → UploadCourse (go_on 0 c.repeats (holding d (learned Upload r c))) (q + 1)
  up-opened u s =
      let k = learned Upload r c in
      let l = up-learned c q r u s in
      rw (holding-upload k u.direction d)
      (up_go k q 0 c.repeats l (omega (arith, (up-segments c q u).0)) (omega arith) l.requests)

  course-opened : (direction : Direction) → c.direction ≡ direction → Course c q → Cause c r d Opened
      → let k = learned direction r c in Course (go_on k.segment k.repeats (holding d k)) (q + 1)
  course-opened Upload e (uploading u) (cause.upload-opened w s a h) = uploading (up-opened u s)
  course-opened Upload e (uploading u) (cause.download-opened w s a h) = not-both e w
  course-opened Upload e (opening o) k = not-both e o.direction
  course-opened Upload e (downloading o) k = not-both e o.direction
  course-opened Download e (uploading u) k = not-both u.direction e
  course-opened Download e (opening o) (cause.upload-opened w s a h) = not-both w e
  course-opened Download e (opening o) (cause.download-opened w s a h) =
      downloading (down-opened c q d r o (opens r d h))
  course-opened Download e (downloading o) (cause.upload-opened w s a h) = not-both w e
  course-opened Download e (downloading o) (cause.download-opened w s a h) = down-opened-not o s

  course-advance : Course c q → Cause c r d Advance → Course (go_on c.segment c.repeats (holding d c)) (q + 1)
  course-advance (uploading u) (cause.segment-taken w s a h) =
      rw (holding-upload c w d)
      (uploading (up_go c q c.segment c.repeats u (taken-below c r h).1 u.known u.requests))
  course-advance (uploading u) (cause.segment-brought w s a h) = not-both u.direction w
  course-advance (opening o) (cause.segment-taken w s a h) = not-both w o.direction
  course-advance (opening o) (cause.segment-brought w s a h) = not-opening-segment o.at s
  course-advance (downloading e) (cause.segment-taken w s a h) = not-both w e.direction
  course-advance (downloading e) (cause.segment-brought w s a h) = downloading (down-brought c q d r e (brought c r d h).1)

  up-returned : (s : ℕ) → UploadCourse c q → s ≤ c.segments → q ≤ 1 + s + (c.repeats + 1) * c.segments
  up-returned s u h = omega (arith, u.requests, u.known, u.within, more c.repeats c.segments)

  course-return : (s : ℕ) → Course c q → Cause c r d (Return s) → Course (go_on s (c.repeats + 1) c) (q + 1)
  course-return s (uploading u) (cause.upload-returned w t a h) =
      let p = upload-point c r h in
      uploading
      (up_go c q s (c.repeats + 1) u p.below p.reached (up-returned s u (omega (arith, p.below))))
  course-return s (opening o) (cause.upload-returned w t a h) = not-both w o.direction
  course-return s (downloading e) (cause.upload-returned w t a h) = not-both w e.direction

  -- one request more
  pub course-next : (decision : Decision) → Issuing decision → Cause c r d decision → Course c q
      → Course (next_of decision c r d) (q + 1)
  course-next Ignore i k e = absurd i
  course-next Opened i k e = course-opened c.direction refl e k
  course-next Advance i k e = course-advance e k
  course-next (Return s) i k e = course-return s e k
  course-next Repeat i k e = course-repeated c q e
  course-next (Close w) i k e = absurd i
