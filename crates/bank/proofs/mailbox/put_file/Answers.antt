-- Rows that no call leaves get number 1; else the call is judged, and only a file that fits is stored. Assumes nothing.
use Rattle.bank.specs.declared.mailbox.FileRefusal.{FileRefusal}
use Rattle.std.specs.Prelude.{Result}
use mathlib.Core.Path.{◌≡◌, sym, ap, ◌∙◌}
use Prim.Native.Nat.{ℕ}
use mathlib.Core.Bool.{true}
use mathlib.Core.List.{List}
use Rattle.bank_rows.specs.State.{bank_of, Laid}
use Rattle.bank_sound.specs.Sound.{is_sound}
use Rattle.bank_rows.proofs.State.{stored-own}
use Rattle.bank_sound.proofs.Test.{sound-laid}
use Rattle.bank.specs.Mailbox.{refused_file, file_call}
use Rattle.bank.specs.Lent.{lent_file_call_of, kept_file, lent_file_call}
use Rattle.std.proofs.lemmas.Result.{err_from_is_err_and}
use Rattle.bank.proofs.Accepted.{file-fits}
use Rattle.bank.proofs.mailbox.put_file.Goals as goal

module _ (s : List ℕ) (l : Laid s) (m : ℕ) (file mailboxes : List ℕ) where
  kept : (a : Result (Unit {0}) FileRefusal) → lent_file_call_of a s mailboxes ≡ kept_file s (refused_file a (bank_of s) mailboxes)
  kept a = ap (λ (r : List ℕ). lent_file_call_of a r mailboxes) (sym (stored-own s l))

pub returns-then-not-is_sound : goal.returns-then-not-is_sound
unfolding lent_file_call
returns-then-not-is_sound c = rw (← c.is_sound.ensures, c.if-not-is_sound.true)

pub judge_file-requires : goal.judge_file-requires
judge_file-requires c =
    let sound : is_sound c.args.rows.now ≡ true = sym c.is_sound.ensures ∙ c.if-not-is_sound.false in
    sound-laid _ (sound)

pub store_file-requires : goal.store_file-requires
store_file-requires c =
    let sound : is_sound c.args.rows.now ≡ true = sym c.is_sound.ensures ∙ c.if-not-is_sound.false in
    let a = c.args in
    let told = sym c.in_ok-judge_file.ensures in
    let fits = file-fits (bank_of a.rows.now) a.mailbox a.file.now a.mailboxes.now told in
    (sound-laid _ (sound), fits.0, fits.1, fits.2, fits.3)

pub returns : goal.returns
unfolding lent_file_call file_call
returns c =
    let sound : is_sound c.args.rows.now ≡ true = sym c.is_sound.ensures ∙ c.if-not-is_sound.false in
    rw (sound, ← c.in_ok-judge_file.ensures)
    c.store_file.ensures

pub returns-in_err-judge_file : goal.returns-in_err-judge_file
unfolding lent_file_call file_call
returns-in_err-judge_file c =
    let sound : is_sound c.args.rows.now ≡ true = sym c.is_sound.ensures ∙ c.if-not-is_sound.false in
    let p = err_from_is_err_and c.from_residual.result c.from_residual.ensures.1 in
    rw (sound, ← c.in_err-judge_file.ensures, p.1, p.2)
    (kept _ (sound-laid _ (sound)) c.args.mailbox c.args.file.now c.args.mailboxes.now _)
