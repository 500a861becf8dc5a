-- The events of requests, by the verdict. Assumes nothing.
use Prim.Native.Nat.{ℕ, ◌≤◌}
use mathlib.Core.Bool.{Bool, true, false, cond}
use mathlib.Core.List.{[], ◌∷◌}
use mathlib.Core.Path.{◌≡◌, refl}
use native.Mathlib.Omega.{arith}
use lib.ListN.{length}
use Rattle.frame_table.specs.declared.fields.Bits128.{Bits128}
use Rattle.frame_table.specs.declared.fields.Fields.{Fields}
use Rattle.frame_table.specs.Names.{subscriber, owner}
use Rattle.message.specs.declared.codes.ReturnCode.{ReturnCode}
use Rattle.bank_verdicts.specs.declared.verdict.UploadAction.TheVariants as up
use Rattle.bank_verdicts.specs.declared.verdict.DownloadAction.{DownloadAction}
use Rattle.bank_verdicts.specs.declared.verdict.Action.TheVariants as action
use Rattle.bank_verdicts.specs.declared.verdict.SignedOrder.{SignedOrder}
use Rattle.bank_verdicts.specs.declared.verdict.Verdict.{Verdict}
use Rattle.bank_verdicts.specs.declared.verdict.Verdict.TheVariants as verdict
use Rattle.journal.specs.declared.event.Kind.{Kind}
use Rattle.journal.specs.declared.event.Kind.TheVariants as kind
use Rattle.journal.specs.declared.event.Entry.{Entry}
use Rattle.bank_events.specs.Entries.{entry, is_event, verdict_kind, verdict_subscriber, verdict_id, action_entries}

module _ (order : ℕ) (q : Fields) where
  -- an accepted opening, a booking and a cancellation are entered, under the request's subscriber, the order's number and its ID
  pub opened-entry : (t : Bits128) (n : ℕ)
      → action_entries (verdict.Of t (action.Upload (up.Opened n))) order q ≡ entry kind.Opened (subscriber q) order t ∷ []
  unfolding action_entries
  opened-entry t n = refl

  pub booked-entry : (t : Bits128)
      → action_entries (verdict.Of t (action.Upload up.TookLast)) order q ≡ entry kind.Booked (subscriber q) order t ∷ []
  unfolding action_entries
  booked-entry t = refl

  pub cancelled-entry : (t : Bits128) (c : ReturnCode)
      → action_entries (verdict.Of t (action.Upload (up.Cancelled c))) order q ≡ entry kind.Cancelled (subscriber q) order t ∷ []
  unfolding action_entries
  cancelled-entry t c = refl

  -- so is a signer more, under the order's owner
  pub signed-entry : (o : SignedOrder)
      → action_entries (verdict.Signed o true) order q ≡ entry kind.Signed (owner q) order o.transaction ∷ []
  unfolding action_entries
  signed-entry o = refl

  -- nothing else is: "Signing again answers 000000 and adds nobody"
  pub again-none : (o : SignedOrder) → action_entries (verdict.Signed o false) order q ≡ []
  unfolding action_entries
  again-none o = refl

  pub took-none : (t : Bits128) → action_entries (verdict.Of t (action.Upload up.Took)) order q ≡ []
  unfolding action_entries
  took-none t = refl

  pub point-none : (t : Bits128) (k : ℕ) → action_entries (verdict.Of t (action.Upload (up.Point k))) order q ≡ []
  unfolding action_entries
  point-none t k = refl

  pub download-none : (t : Bits128) (a : DownloadAction) → action_entries (verdict.Of t (action.Download a)) order q ≡ []
  unfolding action_entries
  download-none t a = refl

  pub refused_none : (c : ReturnCode) → action_entries (verdict.Refused c) order q ≡ []
  unfolding action_entries
  refused_none c = refl

  pub unreadable-none : action_entries verdict.Unreadable order q ≡ []
  unfolding action_entries
  unreadable-none = refl

  -- at most one
  pub action-few : (v : Verdict) → length (action_entries v order q) ≤ 1
  unfolding action_entries
  action-few v = at (is_event (verdict_kind v)) (entry (verdict_kind v) (verdict_subscriber v q) order (verdict_id v))
    where
      at : (t : Bool) (e : Entry) → length (cond t (e ∷ []) []) ≤ 1
      at true e = omega arith
      at false e = omega arith

-- the request's event by its kind
module _ (v : Verdict) (order : ℕ) (q : Fields) (k : Kind) (is : k ≡ verdict_kind v) where
  pub entry-of : (s : ℕ) (id : Bits128) → s ≡ verdict_subscriber v q → id ≡ verdict_id v → is_event k ≡ true
      → action_entries v order q ≡ entry k s order id ∷ []
  unfolding action_entries
  entry-of s id t u e = rw (← is, ← t, ← u, e)

  pub no-entry : is_event k ≡ false → action_entries v order q ≡ []
  unfolding action_entries
  no-entry e = rw (← is, e)
