-- A file goes into a mailbox: "Putting a file into a mailbox brings no time and moves no clock."
use Rattle.bank.specs.declared.mailbox.FileRefusal.{FileRefusal}
use Rattle.std.specs.Prelude.{Err, Ok, Result}
use Rattle.std.specs.Prelude.{ℕ, ◌-◌, ◌*◌, Bool, not, ◌||◌, List, [], ◌∷◌, ltb, eqb, length, set}
use Rattle.number_table.specs.Table as numbers
use Rattle.octets.specs.Bytes.{overwrite}
use Rattle.message.specs.Limits.{file_bytes}
use Rattle.message.specs.Verdicts.{decide}
use Rattle.bank_state.specs.State.{Bank}
use Rattle.bank_state.specs.Limits.{store_bytes}
use Rattle.bank_state.specs.State.{file_length, with_files}
use Rattle.bank_steps.specs.Mailboxes.{is_no_mailbox}
use Rattle.bank.specs.declared.mailbox.FileRefusal.TheVariants.{WrongLength, NoMailbox}
use Rattle.bank.specs.declared.mailbox.FileRefusal.TheVariants.{WrongFile, MailboxFull}

-- *The host* (a number, nothing changed, clock included)
unfoldable pub file_refusals : Bank → ℕ → List ℕ → List ℕ → List (Bool × Result (Unit {0}) FileRefusal)
file_refusals b mailbox file mailboxes =
    (not (eqb (length mailboxes) store_bytes), (Err WrongLength))
    ∷ (is_no_mailbox mailbox, (Err NoMailbox))
    ∷ (eqb (length file) 0 || ltb file_bytes (length file), (Err WrongFile))
    ∷ (not (eqb (file_length mailbox b.files) 0), (Err MailboxFull))
    ∷ []

-- document 01's number for a refusal
abbrev pub file_refusal_number : FileRefusal → ℕ
file_refusal_number WrongLength = numbers.wrong_length
file_refusal_number NoMailbox = numbers.no_mailbox
file_refusal_number WrongFile = numbers.wrong_file
file_refusal_number MailboxFull = numbers.mailbox_full

-- document 01's numbers, 0 where the file is in the mailbox
abbrev pub file_number : Result (Unit {0}) FileRefusal → ℕ
file_number (Ok u) = 0
file_number (Err r) = file_refusal_number r

-- what the call leaves: the bank, the mailboxes' store, the answer, and document 01's number for it
pub record FileCall : Type 0 where
  pub bank : Bank
  pub mailboxes : List ℕ
  pub answer : Result (Unit {0}) FileRefusal
  pub number : ℕ

-- "a number, nothing changed"
abbrev pub refused_file : Result (Unit {0}) FileRefusal → Bank → List ℕ → FileCall
refused_file a b mailboxes = record { bank = b; mailboxes = mailboxes; answer = a; number = file_number a }

abbrev pub carry_out_file : Result (Unit {0}) FileRefusal → Bank → ℕ → List ℕ → List ℕ → FileCall
carry_out_file (Ok u) b mailbox file mailboxes = record {
  bank = with_files (set b.files (mailbox - 1) (length file)) b;
  mailboxes = overwrite mailboxes ((mailbox - 1) * file_bytes) file;
  answer = Ok tt;
  number = file_number (Ok tt);
}
carry_out_file (Err r) b mailbox file mailboxes = refused_file (Err r) b mailboxes

unfoldable pub file_call : Bank → ℕ → List ℕ → List ℕ → FileCall
file_call b mailbox file mailboxes =
    carry_out_file (decide (file_refusals b mailbox file mailboxes) (Ok tt)) b mailbox file mailboxes
