-- What a decision needs, its cause gives: no number of the next run wraps, a segment held has its place.
-- Assumes nothing.
use Prim.Native.Nat.{ℕ, ◌+◌, ◌^◌, ◌<◌, ◌≤◌}
use mathlib.Core.Path.{◌≡◌}
use native.Mathlib.Omega.{arith}
use Rattle.frame_table.specs.declared.fields.Fields.{Fields}
use Rattle.message.specs.Limits.{segment_bytes, max_attempts, file_bytes}
use Rattle.client_run.specs.declared.run.ClientRun.{ClientRun}
use Rattle.client_run.specs.declared.run.Decision.TheVariants.{Opened, Advance, Return, Repeat}
use Rattle.message.specs.declared.directions.Direction.{Direction}
use Rattle.message.specs.declared.directions.Direction.TheVariants.{Upload, Download}
use Rattle.client_run.specs.NextRun.{learned, HasPlace}
use Rattle.client_run.specs.Run.{max_exchange}
use Rattle.client_run.proofs.Apart.{not-both}
use Rattle.client_rules.proofs.Causes.{Cause, repeats-left, upload-point, taken-below, brought, opens}
use Rattle.client_rules.proofs.Causes as cause

-- the outstanding segment of k can be taken with d bytes, in a file buffer of n
abbrev pub Takes : ClientRun → ℕ → ℕ → Type 0
Takes k d n =
    (k.segment + 1 < 2 ^ 64) × (k.exchange ≤ max_exchange) × HasPlace k d × (k.direction ≡ Download → n ≡ file_bytes)

-- a segment that a download is brought has its place
pub advance-place : (c : ClientRun) (r : Fields) (d : ℕ) → Cause c r d Advance → HasPlace c d
advance-place c r d (cause.segment-taken w s a h) = not-both w
advance-place c r d (cause.segment-brought w s a h) =
    let b = (brought c r d h).1 in λ _. (b.some, omega (arith, b.within, b.most), b.bytes.most)

module _ (c : ClientRun) (r : Fields) (d n : ℕ) (x : c.exchange ≤ max_exchange)
    (f : c.direction ≡ Download → n ≡ file_bytes) where
  opened-most : c.direction ≡ Download → Cause c r d Opened → d ≤ segment_bytes
  opened-most w (cause.upload-opened u s a h) = not-both u w
  opened-most w (cause.download-opened u s a h) = (opens r d h).segment-1.bytes.most

  pub opened-takes : (direction : Direction) → c.direction ≡ direction → Cause c r d Opened
      → Takes (learned direction r c) d n
  opened-takes Upload w k = (omega arith, x, not-both w, f)
  opened-takes Download w k = (omega arith, x, λ _. (omega arith, omega arith, opened-most w k), f)

  pub advance-takes : c.segments < 2 ^ 64 → Cause c r d Advance → Takes c d n
  advance-takes m (cause.segment-taken w s a h) = (omega (arith, (taken-below c r h).1), x, not-both w, f)
  advance-takes m (cause.segment-brought w s a h) =
      let b = (brought c r d h).1 in
      (omega (arith, b.within, b.most), x, advance-place c r d (cause.segment-brought w s a h), f)

pub return_fits : (c : ClientRun) (r : Fields) (d s : ℕ) → c.segments < 2 ^ 64 → Cause c r d (Return s) → s + 1 < 2 ^ 64
return_fits c r d s m (cause.upload-returned w t a h) = omega (arith, (upload-point c r h).below)

pub return-left : (c : ClientRun) (r : Fields) (d s : ℕ) → Cause c r d (Return s) → c.repeats < max_attempts
return-left c r d s (cause.upload-returned w t a h) = (upload-point c r h).left

pub repeat-fits : (c : ClientRun) (r : Fields) (d : ℕ) → Cause c r d Repeat → c.repeats < max_attempts
repeat-fits c r d (cause.no-reply h) = repeats-left c h
