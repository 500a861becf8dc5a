-- Its three parts are lent what they ask for. Assumes nothing.
use Rattle.bank_sound.proofs.Test.{sound-laid}
use Rattle.marker_session.proofs.session.print_all.Goals as goal

pub print_book-requires : goal.print_book-requires
print_book-requires g c = (sound-laid _ c.read_all-t.ensures.1.sound).long

pub returns : goal.returns
returns g c = c.read_all-t.ensures.0
