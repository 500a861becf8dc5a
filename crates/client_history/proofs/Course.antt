-- Each step of a run keeps its course: how far it is, and how many requests it has issued by then. Assumes nothing.
use Prim.Native.Nat.{ℕ, ◌+◌, ◌*◌, ◌≤◌, ◌<◌}
use mathlib.Core.Logic.{inl, inr}
use mathlib.Core.Path.{◌≡◌, refl, ap, ◌∙◌}
use native.Mathlib.Nat.{add-mul, one-mul, mul-le-mul_right}
use native.Mathlib.Omega.{arith}
use lib.Dec.{eqb}
use borrow.Author.Tests.{eqb-true, eqb-false}
use Rattle.frame_table.specs.declared.fields.Fields.{Fields}
use Rattle.message.specs.Limits.{max_segments, file_bytes}
use Rattle.message.specs.Segments.{segments_of}
use Rattle.message.proofs.Verdicts.{by-test}
use Rattle.client_run.specs.declared.run.ClientRun.{ClientRun}
use Rattle.message.specs.declared.directions.Direction.{Direction}
use Rattle.message.specs.declared.directions.Direction.TheVariants.{Upload, Download}
use Rattle.client_run.specs.declared.run.RunTerms.{RunTerms}
use Rattle.client_run.specs.declared.run.Step.{Step}
use Rattle.client_run.specs.declared.run.Step.TheVariants as step
use Rattle.client_run.specs.declared.run.Word.{Word}
use Rattle.client_run.specs.NextRun.{begun, step_after, go_on, repeated, learned, holding, ended}
use Rattle.client_run.specs.Run.{parameters_of}
use Rattle.client_run.proofs.Apart.{not-both, not-opening-segment, not-opening-receipt, not-segment-receipt}
use Rattle.client_rules.proofs.Causes.{HasSegment, OpensDownload}
use Rattle.client_history.specs.Bounds.{
  max_requests,
  UploadPlace,
  UploadCourse,
  OpeningCourse,
  DownloadPlace,
  DownloadCourse,
  Course,
  uploading,
  opening,
  downloading,
}

-- one more repeat or return
pub more : (n m : ℕ) → (n + 1) * m ≡ n * m + m
more n m = add-mul n 1 m ∙ ap (λ (z : ℕ). n * m + z) (one-mul m)

-- ---- uploads

pub up-segments : (c : ClientRun) (q : ℕ) → UploadCourse c q → (1 ≤ c.segments) × (c.segments ≤ max_segments)
unfolding segments_of
up-segments c q u = (omega (arith, u.count, u.some, u.most), omega (arith, u.count, u.some, u.most))

-- the request after segment s issued, as the p-th repeat or return
pub up_go : (c : ClientRun) (q s p : ℕ) → UploadCourse c q → s < c.segments → s ≤ c.issued → q ≤ 1 + s + p * c.segments
    → UploadCourse (go_on s p c) (q + 1)
unfolding go_on
up_go c q s p u below near few = record {
  direction = u.direction;
  some = u.some;
  most = u.most;
  count = u.count;
  place = inr (ap (λ (direction : Direction). step_after direction s c.segments) u.direction, omega arith);
  known = omega arith;
  within = omega (arith, u.within);
  requests = omega arith;
}

at-opening : (at : Step) (s : ℕ) → at ≡ step.Opening → UploadPlace at s → s ≡ 0
at-opening at s o (inl p) = p.1
at-opening at s o (inr p) = not-opening-segment o p.0

pub up-learned : (c : ClientRun) (q : ℕ) (r : Fields) → UploadCourse c q → c.step ≡ step.Opening
    → UploadCourse (learned Upload r c) q
up-learned c q r u s = record {
  direction = u.direction;
  some = u.some;
  most = u.most;
  count = u.count;
  place = inl (s, refl);
  known = omega arith;
  within = u.within;
  requests = omega (arith, u.requests, at-opening c.step c.segment s u.place);
}

pub up-repeated : (c : ClientRun) (q : ℕ) → UploadCourse c q → UploadCourse (repeated c) (q + 1)
unfolding repeated
up-repeated c q u = record {
  direction = u.direction;
  some = u.some;
  most = u.most;
  count = u.count;
  place = u.place;
  known = u.known;
  within = u.within;
  requests = omega (arith, u.requests, (up-segments c q u).0, more c.repeats c.segments);
}

pub up-ended : (c : ClientRun) (q : ℕ) (w : Word) → UploadCourse c q → UploadCourse (ended w c) q
unfolding ended
up-ended c q w u = record {
  direction = u.direction;
  some = u.some;
  most = u.most;
  count = u.count;
  place = u.place;
  known = u.known;
  within = u.within;
  requests = u.requests;
}

-- "An upload issues at most 6N + 1 requests"
pub up-most : (c : ClientRun) (q : ℕ) → UploadCourse c q → c.repeats ≤ 5 → q ≤ 6 * c.segments + 1
up-most c q u h = omega (arith, u.requests, u.known, u.within, mul-le-mul_right c.segments h)

-- ---- downloads

place_after_lem : (k n : ℕ) → k ≤ n → DownloadPlace (step_after Download k n) (k + 1) n
place_after_lem k n h =
    by-test (λ (at : Step). DownloadPlace at (k + 1) n) (eqb k n)
    (λ e. inr (refl, ap (λ (m : ℕ). m + 1) (eqb-true k n e)))
    (λ e. inl (refl, (let d = eqb-false k n e in omega arith)))

-- the request after segment s issued, with p repeats by then
down-go : (c : ClientRun) (q s p : ℕ) → c.direction ≡ Download → c.segments ≤ max_segments → 1 ≤ s → s ≤ c.segments
    → q ≤ s + p
    → DownloadCourse (go_on s p c) (q + 1)
unfolding go_on
down-go c q s p w most some within few = record {
  direction = w;
  most = most;
  first = omega arith;
  place = rw w (place_after_lem s c.segments within);
  requests = omega arith;
}

-- the outstanding segment brought
pub down-brought : (c : ClientRun) (q d : ℕ) (r : Fields) → DownloadCourse c q → HasSegment c.segment c.segments d r
    → DownloadCourse (go_on c.segment c.repeats (holding d c)) (q + 1)
down-brought c q d r e h =
    down-go (holding d c) q c.segment c.repeats e.direction e.most h.some h.within e.requests

-- the opening answered
pub down-opened : (c : ClientRun) (q d : ℕ) (r : Fields) → OpeningCourse c q → OpensDownload r d
    → DownloadCourse (go_on 1 c.repeats (holding d (learned Download r c))) (q + 1)
down-opened c q d r o h =
    down-go (holding d (learned Download r c)) q 1 c.repeats o.direction h.segment-1.most (omega arith)
    h.segment-1.within o.requests

pub down-repeated : (c : ClientRun) (q : ℕ) → DownloadCourse c q → DownloadCourse (repeated c) (q + 1)
unfolding repeated
down-repeated c q d = record {
  direction = d.direction;
  most = d.most;
  first = d.first;
  place = d.place;
  requests = omega (arith, d.requests);
}

pub down-ended : (c : ClientRun) (q : ℕ) (w : Word) → DownloadCourse c q → DownloadCourse (ended w c) q
unfolding ended
down-ended c q w d = record {
  direction = d.direction;
  most = d.most;
  first = d.first;
  place = d.place;
  requests = d.requests;
}

pub opening-repeated : (c : ClientRun) (q : ℕ) → OpeningCourse c q → OpeningCourse (repeated c) (q + 1)
unfolding repeated
opening-repeated c q o =
    record {
      direction = o.direction;
      at = o.at;
      unknown = o.unknown;
      requests = omega (arith, o.requests);
    }

pub opening-ended : (c : ClientRun) (q : ℕ) (w : Word) → OpeningCourse c q → OpeningCourse (ended w c) q
unfolding ended
opening-ended c q w o =
    record { direction = o.direction; at = o.at; unknown = o.unknown; requests = o.requests }

down-place : (at : Step) (s n : ℕ) → DownloadPlace at s n → s ≤ n + 1
down-place at s n (inl p) = omega (arith, p.1)
down-place at s n (inr p) = omega (arith, p.1)

-- card 10: "Downloads then issue at most N + 6 requests"
pub down-most : (c : ClientRun) (q : ℕ) → DownloadCourse c q → c.repeats ≤ 5 → q ≤ c.segments + 6
down-most c q d h =
    omega (arith, d.requests, down-place c.step c.segment c.segments d.place)

-- ---- both directions

-- of an upload
pub upload-course : {c : ClientRun} {q : ℕ} → Course c q → c.direction ≡ Upload → UploadCourse c q
upload-course (uploading u) w = u
upload-course (opening o) w = not-both w o.direction
upload-course (downloading d) w = not-both w d.direction

-- what the course of an upload says of the outstanding request, by its step
abbrev pub UploadAt : Step → ClientRun → Type 0
UploadAt step.Opening c = Unit {0}
UploadAt step.Segment c = (1 ≤ c.segment) × (c.segment ≤ c.issued)
UploadAt step.Receipt c = Unit {0}

pub upload-at : {c : ClientRun} {q : ℕ} (s : Step) → c.step ≡ s → UploadCourse c q → UploadAt s c
upload-at step.Opening e u = tt
upload-at {c} step.Segment e u = at u.place
  where
    at : UploadPlace c.step c.segment → (1 ≤ c.segment) × (c.segment ≤ c.issued)
    at (inl p) = not-opening-segment p.0 e
    at (inr p) = (p.1, u.known)
upload-at step.Receipt e u = tt

pub course-ended : (c : ClientRun) (q : ℕ) (w : Word) → Course c q → Course (ended w c) q
course-ended c q w (uploading u) = uploading (up-ended c q w u)
course-ended c q w (opening o) = opening (opening-ended c q w o)
course-ended c q w (downloading d) = downloading (down-ended c q w d)

pub course-repeated : (c : ClientRun) (q : ℕ) → Course c q → Course (repeated c) (q + 1)
course-repeated c q (uploading u) = uploading (up-repeated c q u)
course-repeated c q (opening o) = opening (opening-repeated c q o)
course-repeated c q (downloading d) = downloading (down-repeated c q d)

pub course-most : (c : ClientRun) (q : ℕ) → Course c q → c.repeats ≤ 5 → q ≤ max_requests c.direction c.segments
course-most c q (uploading u) h = rw u.direction (up-most c q u h)
course-most c q (opening o) h = rw o.direction (omega (arith, o.requests))
course-most c q (downloading d) h = rw d.direction (down-most c q d h)

pub course-segments : (c : ClientRun) (q : ℕ) → Course c q → c.segments ≤ max_segments
course-segments c q (uploading u) = (up-segments c q u).1
course-segments c q (opening o) = omega (arith, o.unknown)
course-segments c q (downloading d) = d.most

-- what the course of a download says of the outstanding request, by its step
abbrev pub DownloadAt : Step → ClientRun → Type 0
DownloadAt step.Opening c = Unit {0}
DownloadAt step.Segment c = (1 ≤ c.segment) × (c.segment ≤ c.segments) × (c.segments ≤ max_segments)
DownloadAt step.Receipt c = c.segment ≡ c.segments + 1

open_at : (s : Step) (c : ClientRun) (q : ℕ) → c.step ≡ s → DownloadCourse c q → DownloadAt s c
open_at s c q e d = at s e d.place
  where
    at : (s : Step) → c.step ≡ s → DownloadPlace c.step c.segment c.segments → DownloadAt s c
    at step.Opening e p = tt
    at step.Segment e (inl p) = (omega (arith, d.first), p.1, d.most)
    at step.Segment e (inr p) = not-segment-receipt e p.0
    at step.Receipt e (inl p) = not-segment-receipt p.0 e
    at step.Receipt e (inr p) = p.1

pub download-at : {c : ClientRun} {q : ℕ} (s : Step) → c.step ≡ s → c.direction ≡ Download → Course c q → DownloadAt s c
download-at s e w (uploading u) = not-both u.direction w
download-at {c} {q} s e w (downloading d) = open_at s c q e d
download-at step.Opening e w (opening o) = tt
download-at step.Segment e w (opening o) = not-opening-segment o.at e
download-at step.Receipt e w (opening o) = not-opening-receipt o.at e

-- ---- a run as begun

pub up_start : (subscriber first : ℕ) (terms : RunTerms) (n : ℕ) → 1 ≤ n → n ≤ file_bytes
    → Course (begun (parameters_of Upload subscriber first terms) n) 1
unfolding begun
up_start subscriber first terms n some most = uploading (record {
  direction = refl;
  some = some;
  most = most;
  count = refl;
  place = inl (refl, refl);
  known = omega arith;
  within = omega arith;
  requests = omega arith;
})

pub opening-start : (subscriber first : ℕ) (terms : RunTerms)
    → Course (begun (parameters_of Download subscriber first terms) 0) 1
unfolding begun segments_of
opening-start subscriber first terms =
    opening (record { direction = refl; at = refl; unknown = refl; requests = omega arith })
