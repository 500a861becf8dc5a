-- The clock, then the downloads that end, then the nonces: three changes stored as one.
use Rattle.bank_clock.proofs.Steps.{clocked-laid, ended-laid, at-clock-stored}
use Rattle.bank_clock.proofs.clock.set_to.Goals as goal

pub end_downloads-requires : goal.end_downloads-requires
end_downloads-requires c =
    clocked-laid c.args.rows.now c.requires c.args.clock _ c.set_clock.ensures

pub forget-requires : goal.forget-requires
forget-requires c =
    ended-laid c.args.rows.now c.requires c.args.clock _ c.set_clock.ensures _ c.end_downloads.ensures

pub returns : goal.returns
returns c =
    at-clock-stored c.args.rows.now c.requires c.args.clock _ c.set_clock.ensures _ c.end_downloads.ensures _
    c.forget.ensures
