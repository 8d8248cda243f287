-- `pack::fill_tables` meets its contract. Assumes nothing.
use Rattle.std.proofs.lemmas.Result.{err_from_is_err_and}
use Rattle.pack.proofs.Answer.{head_broke, head_fits, body_near, body_broke, left_over, all_in}
use Rattle.pack.proofs.fill_tables.Goals as goal

pub returns-in_err-head : goal.returns-in_err-head
returns-in_err-head c =
    let p = err_from_is_err_and c.from_residual.result c.from_residual.ensures.1 in
    rw (p.1, p.2) (head_broke c.args.pack.now c.in_err-head.ensures)

pub read_body-requires : goal.read_body-requires
read_body-requires c =
    let h = c.in_ok-head.ensures in
    record { head_bound = body_near c.args.pack.now _ _ h; head_fits = head_fits c.args.pack.now _ _ h; references_value = c.requires }

pub returns-in_err-bytes : goal.returns-in_err-bytes
returns-in_err-bytes c =
    let p = err_from_is_err_and c.from_residual-in_err-bytes.result c.from_residual-in_err-bytes.ensures.1 in
    rw (p.1, p.2) (body_broke c.args.pack.now _ _ c.in_ok-head.ensures c.in_err-bytes.ensures)

pub is_padding-requires : goal.is_padding-requires
is_padding-requires c = c.in_ok-bytes.ensures.near

pub returns-then-not-is_padding : goal.returns-then-not-is_padding
returns-then-not-is_padding c =
    left_over c.args.pack.now _ _ c.in_ok-head.ensures _ _ _ c.in_ok-bytes.ensures _ c.is_padding.ensures c.if-not-is_padding.true-raw

pub returns : goal.returns
returns c =
    all_in c.args.pack.now _ _ c.in_ok-head.ensures _ _ _ c.in_ok-bytes.ensures _ c.is_padding.ensures c.if-not-is_padding.false-raw
