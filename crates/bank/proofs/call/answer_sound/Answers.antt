-- The frame is read and its request answered.
use Rattle.bank.proofs.RequestBounds.{read-bounded}
use Rattle.bank.proofs.call.answer_sound.Goals as goal

pub answer_request-requires : goal.answer_request-requires
answer_request-requires c = (
  c.requires,
  read-bounded _ (λ i. (c.type_inv.frame i).fits) c.read_whole_request-p.ensures.0,
)

pub returns : goal.returns
returns c =
    c.answer_request.ensures _ c.read_whole_request-p.ensures.0 c.data_at-bytes.ensures
