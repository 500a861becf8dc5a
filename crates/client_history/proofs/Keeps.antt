-- Every fair event keeps the invariant: the bounds, which any event keeps, and what the run's direction adds.
use Prim.Native.Nat.{ℕ}
use mathlib.Core.List.{List, [], ◌∷◌}
use mathlib.Core.Path.{◌≡◌, refl, sym, ap, ◌∙◌, subst}
use native.Mathlib.Omega.{arith}
use lib.ListN.{length}
use Rattle.frame_table.specs.declared.fields.Bits128.{Bits128}
use Rattle.frame_table.specs.declared.fields.Fields.{Fields}
use Rattle.octets.proofs.Tests.{never}
use Rattle.message.specs.Limits.{file_bytes}
use Rattle.client_run.specs.declared.run.ClientRun.{ClientRun}
use Rattle.message.specs.declared.directions.Direction.{Direction}
use Rattle.message.specs.declared.directions.Direction.TheVariants.{Upload, Download}
use Rattle.client_run.specs.declared.run.RunTerms.{RunTerms}
use Rattle.client_run.specs.declared.run.Step.{Step}
use Rattle.client_run.specs.declared.run.Step.TheVariants as step
use Rattle.client_run.specs.declared.run.Word.{Word}
use Rattle.client_run.specs.NextRun.{begin_length, begun, ended}
use Rattle.client_run.specs.Run.{Lent, lengths_of, parameters_of, not_begun}
use Rattle.client_run.proofs.Apart.{not-both, not-new-running}
use Rattle.client_rules.proofs.Accepted.{Serves, Accepted, file-served}
use Rattle.client_history.specs.Bounds.{Bounded, Bounds, fresh, going}
use Rattle.client_history.specs.History.{
  Issue,
  Event,
  Past,
  issue_of,
  issuing,
  after,
  past_of,
  BankReplies,
  Kept,
  Fair,
  AllFair,
}
use Rattle.client_history.specs.Invariant.{
  Begun,
  UploadRun,
  DownloadRun,
  Invariant,
  not-begun,
  upload,
  download,
}
use Rattle.client_history.proofs.Bounds.{bounded, bounds-kept}
use Rattle.client_history.proofs.Changes.{Move, Ends, Change, ending}
use Rattle.client_history.proofs.Changes as change
use Rattle.client_history.proofs.Course.{upload-course, upload-at, DownloadAt, download-at}
use Rattle.client_history.proofs.Downloads
use Rattle.client_history.proofs.Issues.{newest-issued, newest-ended, answered}
use Rattle.client_history.proofs.Uploads

module _ (Given : Fields → List ℕ → Fields → List ℕ → Type 0) (file_at : Bits128 → List ℕ)
    (bank : BankReplies Given file_at) where
  abbrev Inv : Past → Type 0
  Inv = Invariant Given file_at

  module _ (p : Past) (l : Lent) (a : Accepted p.run l) (k : Kept l p) (b : Begun p) where
    abbrev c : ClientRun
    c = p.run

    -- ---- upload

    module _ (u : UploadRun Given c p.payload p.issues) where
      upload-goes : {next : ClientRun} {file : List ℕ} → Move Given p next file
          → UploadRun Given next p.payload (issue_of next p.payload file l.time l.nonce ∷ p.issues)
      upload-goes (change.upload-opens {r} {d} w s g t) =
          Uploads.opened-run Given c p.payload p.file p.issues u a.running r d l.time l.nonce s
          (answered Given file_at bank p r d b g) t
      upload-goes (change.takes w s g t) =
          Uploads.next-run Given c p.payload p.file p.issues u a.running l.time l.nonce s _ _
      upload-goes (change.upload-returns w s g t) =
          Uploads.next-run Given c p.payload p.file p.issues u a.running l.time l.nonce s _ _
      upload-goes (change.download-opens w s g t) = not-both u.direction w
      upload-goes (change.brings w s g t) = not-both u.direction w
      upload-goes (change.repeats t) =
          Uploads.repeated-run Given c p.payload p.file p.issues u a.running l.time l.nonce
          (upload-at c.step refl (upload-course b.bounded.course u.direction))

      upload-closes : {w : Word} → Ends Given p w → UploadRun Given (ended w c) p.payload p.issues
      upload-closes (change.last_taken {r} {d} w s g t) =
          Uploads.lodged-run Given c p.payload p.file p.issues u a.running r d s
          (answered Given file_at bank p r d b g) t
      upload-closes (change.cancelled {r} {d} w s g t) =
          Uploads.cancelled-run Given c p.payload p.file p.issues u a.running r d s
          (answered Given file_at bank p r d b g) t
      upload-closes (change.confirmed w s g t) = not-both u.direction w
      upload-closes change.otherwise = Uploads.rest-run Given c p.payload p.file p.issues u a.running

    -- ---- download

    module _ (u : DownloadRun Given file_at c p.file p.issues) where
      -- a download's file buffer of another length is refused
      room : length p.file ≡ file_bytes
      room =
          subst (λ (f : List ℕ). length f ≡ file_bytes) k.file
          (file-served c.direction (lengths_of l) a.buffers u.direction)

      place : (s : Step) → c.step ≡ s → DownloadAt s c
      place s e = download-at s e u.direction b.bounded.course

      download-goes : {next : ClientRun} {file : List ℕ} → Move Given p next file
          → DownloadRun Given file_at next file (issue_of next p.payload file l.time l.nonce ∷ p.issues)
      download-goes (change.upload-opens w s g t) = not-both w u.direction
      download-goes (change.takes w s g t) = not-both w u.direction
      download-goes (change.upload-returns w s g t) = not-both w u.direction
      download-goes (change.download-opens {r} {d} w s g t) =
          Downloads.opened-run Given file_at c p.payload p.file p.issues u a.running bank r d
          (answered Given file_at bank p r d b g) room l.time l.nonce s t
      download-goes (change.brings {r} {d} w s g t) =
          Downloads.brought-run Given file_at c p.payload p.file p.issues u a.running bank r d
          (answered Given file_at bank p r d b g) room l.time l.nonce s t
      download-goes (change.repeats t) =
          Downloads.repeated-run Given file_at c p.payload p.file p.issues u a.running l.time l.nonce
          (place c.step refl)

      download-closes : {w : Word} → Ends Given p w → DownloadRun Given file_at (ended w c) p.file p.issues
      download-closes (change.last_taken w s g t) = not-both w u.direction
      download-closes (change.cancelled w s g t) = not-both w u.direction
      download-closes (change.confirmed {r} {d} w s g t) =
          Downloads.confirmed-run Given file_at c p.payload p.file p.issues u a.running r d
          (answered Given file_at bank p r d b g) s (place step.Receipt s) t
      download-closes change.otherwise =
          Downloads.rest-run Given file_at c p.payload p.file p.issues u a.running

  -- ---- the begin

  begins : (p : Past) (direction : Direction) (s first : ℕ) (terms : RunTerms) (l : Lent) → p.issues ≡ []
      → let params = parameters_of direction s first terms in
      let q =
      issuing (begun params (begin_length direction (lengths_of l))) l.payload l.file l.time l.nonce
      p.issues
      in Serves direction (lengths_of l) → Begun q → Inv q
  begins p Upload s first terms l e serves b =
      upload b (Uploads.begun-run Given s first terms l.time l.nonce l.payload l.file p.issues e)
  begins p Download s first terms l e serves b =
      download b (Downloads.begun-run Given file_at s first terms l.time l.nonce l.payload l.file p.issues e)

  -- ---- every change

  -- a run that issued something is within the bounds
  some-issued : {c : ClientRun} {x : Issue} {issues : List Issue} → Bounds c (x ∷ issues) → Bounded c (x ∷ issues)
  some-issued (fresh e z) = absurd (let z : ◌≡◌ {A = ℕ} 0 1 = cc in omega arith)
  some-issued (going b) = b

  now-issued : (next : ClientRun) (payload file : List ℕ) (time : ℕ) (nonce : List ℕ) (issues : List Issue)
      → let q = issuing next payload file time nonce issues in Bounds next q.issues → Begun q
  now-issued next payload file time nonce issues s =
      record { bounded = some-issued s; newest = newest-issued next payload file time nonce issues }

  now-ended : (w : Word) (p : Past) → Begun p → Bounds (ending w p).run p.issues → Begun (ending w p)
  unfolding ended
  now-ended w p b s = record { bounded = bounded refl s; newest = newest-ended w p b.newest }

  idle : {A : Type 0} (p : Past) (l : Lent) → p.run ≡ not_begun → Accepted p.run l → A
  idle p l e a = not-new-running (ap (λ (k : ClientRun). k.stage) e) a.running

  kept_by_lem : {p q : Past} → Change Given p q → Bounds q.run q.issues → Inv p → Inv q
  kept_by_lem change.nothing n i = i
  kept_by_lem {p} (change.begins-with params l b) n (not-begun e f) =
      begins p params.direction params.subscriber params.first params.terms l f b.buffers
      (now-issued _ l.payload l.file l.time l.nonce p.issues n)
  kept_by_lem (change.begins-with params l b) n (upload g u) = never (sym b.fresh ∙ g.bounded.stage)
  kept_by_lem (change.begins-with params l b) n (download g u) = never (sym b.fresh ∙ g.bounded.stage)
  kept_by_lem {p} (change.goes l a k m) n (not-begun e f) = idle p l e a
  kept_by_lem {p} (change.goes {next} {file} l a k m) n (upload b u) =
      upload (now-issued next p.payload file l.time l.nonce p.issues n) (upload-goes p l a k b u m)
  kept_by_lem {p} (change.goes {next} {file} l a k m) n (download b u) =
      download (now-issued next p.payload file l.time l.nonce p.issues n) (download-goes p l a k b u m)
  kept_by_lem {p} (change.closes l a k m) n (not-begun e f) = idle p l e a
  kept_by_lem {p} (change.closes {w} l a k m) n (upload b u) = upload (now-ended w p b n) (upload-closes p l a k b u m)
  kept_by_lem {p} (change.closes {w} l a k m) n (download b u) =
      download (now-ended w p b n) (download-closes p l a k b u m)

  bounds_of : {p : Past} → Inv p → Bounds p.run p.issues
  bounds_of (not-begun e f) = fresh e f
  bounds_of (upload b u) = going b.bounded
  bounds_of (download b u) = going b.bounded

  -- THE INVARIANT IS KEPT
  pub kept : (p : Past) (e : Event) → Fair Given e p → Invariant Given file_at p → Invariant Given file_at (after e p)
  kept p e f i = kept_by_lem (change.changes Given p e f) (bounds-kept p e (bounds_of i)) i

  -- AND HOLDS OF EVERY LIST OF FAIR EVENTS
  pub invariant : (es : List Event) → AllFair Given es → Invariant Given file_at (past_of es)
  unfolding past_of
  invariant [] f = not-begun refl refl
  invariant (e ∷ es) f = kept (past_of es) e f.0 (invariant es f.1)
