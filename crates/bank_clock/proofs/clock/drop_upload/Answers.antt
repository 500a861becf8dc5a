-- An idle upload's place is freed and its bytes are zeroed; any other stays.
use Rattle.bank_clock.proofs.Steps.{dropped-idle, dropped-none}
use Rattle.bank_clock.proofs.clock.drop_upload.Goals as goal

pub returns-then-is_idle_upload : goal.returns-then-is_idle_upload
returns-then-is_idle_upload c =
    let a = c.args in
    dropped-idle a.rows.now c.requires.0 a.orders.now a.i _ c.clock-at.ensures
    c.is_idle_upload.ensures c.if-is_idle_upload.true _ _ _ c.no_place.ensures c.set_place.ensures
    c.zero.ensures

pub returns-else-is_idle_upload : goal.returns-else-is_idle_upload
returns-else-is_idle_upload c =
    let a = c.args in
    dropped-none a.rows.now c.requires.0 a.orders.now a.i _ c.clock-at.ensures
    c.is_idle_upload.ensures c.if-is_idle_upload.false
