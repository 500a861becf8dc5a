-- What a request to the bank comes to: the mailbox that 011000 empties. Assumes nothing.
use Prim.Native.Nat.{ℕ, ◌-◌, ◌≤◌}
use mathlib.Core.Bool.{true}
use mathlib.Core.List.{List, []}
use mathlib.Core.Path.{◌≡◌}
use native.Mathlib.Omega.{arith}
use lib.ListN.{length, length-take}
use lib.Seq.{get_or-set_same}
use Rattle.frame_table.specs.declared.fields.Bits128.{Bits128}
use Rattle.frame_table.specs.declared.fields.Fields.{Fields}
use Rattle.frame_table.specs.Names.{subscriber, transaction}
use Rattle.message.specs.Limits.{file_bytes}
use Rattle.bank_state.specs.State.{BankState, download_at, file_length}
use Rattle.bank_state.specs.Store.{part_at, file_of}
use Rattle.bank_state.proofs.Found.{download-found}
use Rattle.bank_verdicts.specs.declared.verdict.DownloadAction.{DownloadAction}
use Rattle.bank_verdicts.specs.declared.verdict.DownloadAction.TheVariants as down
use Rattle.bank_verdicts.specs.declared.verdict.Action.TheVariants as action
use Rattle.bank_verdicts.specs.declared.verdict.Verdict.{Verdict}
use Rattle.bank_verdicts.specs.declared.verdict.Verdict.TheVariants as verdict
use Rattle.bank_verdicts.specs.Judgement.{download_of}
use Rattle.bank_steps.specs.Steps.{download_acts, emptied, carry_out}
use Rattle.bank_admitted.specs.State.{mailbox_file}
use Rattle.bank_admitted.specs.State.{Sizes}
use Rattle.bank_steps.proofs.Cases.{Happens, unreadable, refused, opens_upload, opens_download, signs, to_upload, to_download}
use Rattle.bank_history.proofs.Changes.{no-file}

-- ---- mailboxes

-- no mailbox holds more than its bytes
pub mailbox-short : (w : BankState) (m : ℕ) → length (mailbox_file w m) ≤ file_bytes
unfolding mailbox_file file_of part_at
mailbox-short w m = simp length-take (omega arith)

-- "011000: mailbox emptied": the receipt was that of an open download of its subscriber; the bank is then w'
pub record Empties (w w' : BankState) (q : Fields) (t : Bits128) : Type 0 where
  pub row : ℕ
  pub used : (download_at w.bank row).used ≡ true
  pub owner : (download_at w.bank row).subscriber ≡ subscriber q
  pub own : (download_at w.bank row).transaction ≡ t
  pub empty : mailbox_file w' (subscriber q) ≡ []

pub case-empties : {first : ℕ} {w : BankState} {q : Fields} {d : List ℕ} {x : Verdict} → Happens first w q d x → Sizes w →
    {t : Bits128} → x ≡ verdict.Of t (action.Download down.Confirmed) → Empties w (carry_out x w q d) q t
unfolding file_length
case-empties unreadable z own = absurd (let y : ◌≡◌ {A = ℕ} 0 1 = cc in omega arith)
case-empties (refused c e) z own = absurd (let y : ◌≡◌ {A = ℕ} 0 1 = cc in omega arith)
case-empties (opens_upload asked a g n inside below) z own = absurd (let y : ◌≡◌ {A = ℕ} 0 1 = cc in omega arith)
case-empties (opens_download asked a g n) z own = absurd (let y : ◌≡◌ {A = ℕ} 0 1 = cc in omega arith)
case-empties (signs c) z own = absurd (let y : ◌≡◌ {A = ℕ} 0 1 = cc in omega arith)
case-empties (to_upload r a c) z own = absurd (let y : ◌≡◌ {A = ℕ} 0 1 = cc in omega arith)
case-empties {w = w} {q = q} (to_download r a c) z {t} own = at a own
  where
    j : ℕ
    j = download_of w.bank q

    at : (b : DownloadAction) → verdict.Of (download_at w.bank j).transaction (action.Download b)
        ≡ verdict.Of t (action.Download down.Confirmed) →
        Empties w (download_acts b (download_at w.bank j).transaction w q) q t
    at down.Confirmed h =
        let e = download_at w.bank j in
        let f = download-found (subscriber q) (transaction q) e c.found in
        record {
          row = j;
          used = f.0;
          owner = f.1;
          own = cc;
          empty = no-file (emptied (subscriber q) w) (subscriber q)
              (get_or-set_same w.bank.files (subscriber q - 1) 0 0
              (let k = c.readable.most in let l = c.readable.known in let y = z.files in omega arith));
        }
    at (down.Opened n) h = absurd (let y : ◌≡◌ {A = ℕ} 0 1 = cc in omega arith)
    at (down.Delivered n) h = absurd (let y : ◌≡◌ {A = ℕ} 0 1 = cc in omega arith)
    at (down.SentAgain n) h = absurd (let y : ◌≡◌ {A = ℕ} 0 1 = cc in omega arith)
    at (down.Point k) h = absurd (let y : ◌≡◌ {A = ℕ} 0 1 = cc in omega arith)
    at down.Cancelled h = absurd (let y : ◌≡◌ {A = ℕ} 0 1 = cc in omega arith)
    at down.Declined h = absurd (let y : ◌≡◌ {A = ℕ} 0 1 = cc in omega arith)
