-- A recovery attempt does not put off the drop: an open transaction has a fitting request within the idle limit.
use Prim.Native.Nat.{ℕ, ◌+◌, ◌≤◌, ◌<◌}
use mathlib.Core.Bool.{false}
use mathlib.Core.List.{List}
use mathlib.Core.Path.{◌≡◌, sym, ap, ◌∙◌, subst}
use native.Mathlib.Omega.{arith}
use Rattle.frame_table.specs.declared.fields.Bits128.{Bits128}
use Rattle.frame_table.specs.declared.fields.Fields.{Fields}
use Rattle.frame_table.specs.Names.{subscriber, transaction}
use Rattle.octets.proofs.Tests.{never}
use Rattle.message.specs.declared.codes.ReturnCode.TheVariants as code
use Rattle.bank_state.specs.Limits.{idle_limit}
use Rattle.bank_state.specs.Search.{is_open}
use Rattle.bank_state.specs.State.{BankState, no_bits, place_at, download_at}
use Rattle.bank_state.proofs.Found.{upload-found, download-found}
use Rattle.bank_verdicts.specs.declared.verdict.Action.{Action}
use Rattle.bank_verdicts.specs.declared.verdict.Verdict.{Verdict}
use Rattle.bank_verdicts.specs.declared.verdict.Verdict.TheVariants as verdict
use Rattle.bank_verdicts.specs.Judgement.{upload_at, download_of}
use Rattle.bank_history.specs.History.{Exchange, BankCall, Stands, newest, past_of, opens, is_opening}
use Rattle.bank_admitted.specs.State.{NoneIdle}
use Rattle.bank_history.specs.FalseEconomies.{Next, Asks, RefusedWith, Fits}
use Rattle.bank_steps.proofs.Cases.{
  Happens,
  unreadable,
  refused,
  opens_upload,
  opens_download,
  signs,
  to_upload,
  to_download,
}
use Rattle.bank_admitted.proofs.Clock.{advanced-not-idle}
use Rattle.bank_history.proofs.Counted.{Fitted, Counted, judged-counted}
use Rattle.bank_history.proofs.Keeps.{past-holds}
use Rattle.bank_history.proofs.NextCall.{
  judged_bank,
  case-is,
  clock-is,
  all_sound,
  refused-with,
  no-opening,
  asked-open,
  unknown-unless,
}
use Rattle.bank_history.proofs.Positions.{action-sound}
use Rattle.bank_history.proofs.SentSegments.{fits-shown}
use Rattle.bank_history.proofs.Theorems.{history-sound}

-- the transaction of an action
id_of : Verdict → Bits128
id_of verdict.Unreadable = no_bits
id_of (verdict.Refused c) = no_bits
id_of (verdict.Signed n added) = no_bits
id_of (verdict.Of t k) = t

is_of : Verdict → ℕ
is_of verdict.Unreadable = 0
is_of (verdict.Refused c) = 0
is_of (verdict.Signed n added) = 0
is_of (verdict.Of t k) = 1

-- a fitting request of u at most the idle limit before the clock of w
record Recent (u : Bits128) (w : BankState) (h : List Exchange) : Type 0 where
  last : ℕ
  fitted : Fitted u last h
  recent : w.bank.clock ≤ last + idle_limit

module _ (w : BankState) (h : List Exchange) (c : Counted w h) (current : NoneIdle w) (q : Fields) (d : List ℕ) (first : ℕ) (u : Bits128)
    (k : Action) (no_opening : is_opening k ≡ false) where
  acted-recent : {x : Verdict} → Happens first w q d x → x ≡ verdict.Of u k → Recent u w h
  unfolding id_of is_of
  acted-recent unreadable z = absurd (let y = ap is_of z in omega arith)
  acted-recent (refused r e) z = absurd (let y = ap is_of z in omega arith)
  acted-recent (signs s) z = absurd (let y = ap is_of z in omega arith)
  acted-recent (opens_upload asked a g n inside below) z = never (sym no_opening ∙ sym (ap opens z))
  acted-recent (opens_download asked a g n) z = never (sym no_opening ∙ sym (ap opens z))
  acted-recent (to_upload r a s) z =
      let i = upload_at w.bank q in
      let p = place_at w.bank i in
      let o = ap is_open (upload-found (subscriber q) (transaction q) p s.found).0 in
      record {
        last = p.last;
        fitted = subst (λ (t : Bits128). Fitted t p.last h) (ap id_of z) (c.places i s.inside o).fitted;
        recent = current.places i s.inside o;
      }
  acted-recent (to_download r a s) z =
      let j = download_of w.bank q in
      let e = download_at w.bank j in
      let o = (download-found (subscriber q) (transaction q) e s.found).0 in
      record {
        last = e.last;
        fitted = subst (λ (t : Bits128). Fitted t e.last h) (ap id_of z) (c.downloads j o).fitted;
        recent = current.downloads j o;
      }

pub idle-refused : {calls : List BankCall} {e : Exchange} {t : Bits128} → Next calls e → Asks t e →
    ((f : Exchange) (g : List Exchange) → Stands f g (past_of calls).history → Fits t g f → f.clock + idle_limit < e.clock) →
    RefusedWith code.UnknownTransaction e
idle-refused {calls} {e} {t} n a old = refused-with n code.UnknownTransaction (unknown-unless n a gone)
  where
    h : List Exchange
    h = (past_of calls).history

    gone : (u : Bits128) (k : Action) → e.verdict ≡ verdict.Of u k → ⊥
    gone u k own =
        let sizes = (past-holds calls).invariant.state.sizes in
        let r = acted-recent (judged_bank n) h (judged-counted calls n.input.time)
        (advanced-not-idle n.input.time (past_of calls).bank_state sizes) _ _ _
        u k (no-opening n a u k (action-sound (all_sound n) newest own)) (case-is n) own in
        let f = subst (λ (i : Bits128). Fitted i r.last h) (asked-open n a own).0 r.fitted in
        let late = old f.exchange f.before f.stands (fits-shown (history-sound calls) f.stands f.fits) in
        let b = f.came in
        let c = clock-is n in
        let m = r.recent in
        omega arith
