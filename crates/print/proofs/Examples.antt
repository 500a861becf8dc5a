-- The first order of subscriber 1, as document 02's cards print it: its name, its closing word, its line. Assumes
-- nothing.
use mathlib.Core.Path.{◌≡◌, refl}
use Rattle.octets.specs.Texts.{ascii}
use Rattle.message.specs.Limits.{ful}
use Rattle.message.specs.OrderNumbers.{character, letter, order_number_of}
use Rattle.journal.specs.declared.event.OrderName.{OrderName}
use Rattle.client_run.specs.declared.run.Word.TheVariants.{Lodged}
use Rattle.bank_state.specs.declared.state.Place.{Place}
use Rattle.signers.specs.Signers.{has_bit, is_signer, with_signer, count_from, signer_count, is_released}
use Rattle.print.specs.Text.{digits_in, digit_count_to, digit_count, decimal, type_column, column, newline}
use Rattle.print.specs.Name.{order_name_text}
use Rattle.print.specs.Closing.{closing_text}
use Rattle.print.specs.Book.{signer_columns, order_columns}

abbrev first : OrderName
first = record { subscriber = 1; order_type = ful; number = order_number_of 0 }

pub name-first : order_name_text first ≡ ascii "1 FUL A000"
unfolding order_name_text order_number_of character letter type_column column decimal digits_in digit_count digit_count_to
name-first = refl

pub lodged-first : closing_text Lodged first ≡ ascii "lodged 1 FUL A000"
unfolding order_name_text order_number_of character letter type_column column decimal digits_in digit_count digit_count_to
lodged-first = refl

-- as booked, which "makes nobody a signer"
pub line_first : (p : Place) → p.number ≡ 0 → p.subscriber ≡ 1 → p.signers ≡ 0
    → order_columns p 1 newline ≡ ascii "A000 1 FUL 1 0 no\n"
unfolding order_columns signer_columns signer_count is_released count_from is_signer has_bit order_number_of character letter type_column column decimal digits_in digit_count digit_count_to
line_first p h k s = rw (h, k, s) refl

-- and signed by subscribers 1 and 8: "two or more make the order released"
pub line-released : (p : Place) → p.number ≡ 0 → p.subscriber ≡ 1 → p.signers ≡ with_signer 8 (with_signer 1 0)
    → order_columns p 1 newline ≡ ascii "A000 1 FUL 1 2 yes\n"
unfolding order_columns signer_columns signer_count is_released count_from with_signer is_signer has_bit order_number_of character letter type_column column decimal digits_in digit_count digit_count_to
line-released p h k s = rw (h, k, s) refl
