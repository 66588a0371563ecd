-- The part is cut out of the table of the language at the place that is found, which lies in the table; of a refusal there are no bytes.
use Rattle.std.proofs.Common.{◌≡◌, Ok, Err, rules}
use Rattle.refusal.specs.Number.{number_of}
use Rattle.refusal.specs.declared.Refusal.TheVariants.{NoSuchLanguage}
use Rattle.texts.proofs.Placed.{place_unspoken, place_spoken, table_spoken, refused_part, found_part}
use Rattle.texts.proofs.Tables.text.Goals as goal

pub returns-in_err-try_from-clause-refusal : goal.returns-in_err-try_from-clause-refusal
unfolding number_of
returns-in_err-try_from-clause-refusal c =
    let same : c.from_residual.result ≡ Err c.in_err-try_from.field-0.0 = search rules in
    let unspoken = c.in_err-try_from.ensures in
    let place = place_unspoken c.args.self.first c.args.self.second c.args.language c.args.number unspoken.1 in
    rw (same, unspoken.0) (refused_part _ _ _ NoSuchLanguage place).told

pub returns-in_err-try_from-clause-bytes : goal.returns-in_err-try_from-clause-bytes
returns-in_err-try_from-clause-bytes c =
    let same : c.from_residual.result ≡ Err c.in_err-try_from.field-0.0 = search rules in
    let unspoken = c.in_err-try_from.ensures in
    let place = place_unspoken c.args.self.first c.args.self.second c.args.language c.args.number unspoken.1 in
    rw same (refused_part _ _ _ NoSuchLanguage place).nothing

pub returns-in_err-start-clause-refusal : goal.returns-in_err-start-clause-refusal
unfolding number_of
returns-in_err-start-clause-refusal c =
    let refusal = c.in_err-start.field-0.0 in
    let same : c.from_residual-in_err-start.result ≡ Err refusal = search rules in
    let place = place_spoken _ _ _ _ _ _ c.in_ok-try_from.ensures c.of-table.ensures (Err refusal) c.in_err-start.ensures in
    rw same (refused_part _ _ _ refusal place).told

pub returns-in_err-start-clause-bytes : goal.returns-in_err-start-clause-bytes
returns-in_err-start-clause-bytes c =
    let refusal = c.in_err-start.field-0.0 in
    let same : c.from_residual-in_err-start.result ≡ Err refusal = search rules in
    let place = place_spoken _ _ _ _ _ _ c.in_ok-try_from.ensures c.of-table.ensures (Err refusal) c.in_err-start.ensures in
    rw same (refused_part _ _ _ refusal place).nothing

pub slice_bounds-result-count : goal.slice_bounds-result-count
slice_bounds-result-count c = (found_part _ _ _ _ _ c.in_ok-start.ensures).rising

pub slice_bounds-result-start : goal.slice_bounds-result-start
slice_bounds-result-start c = (found_part _ _ _ _ _ c.in_ok-start.ensures).rising

pub slice_bounds-result-end : goal.slice_bounds-result-end
slice_bounds-result-end c = (found_part _ _ _ _ _ c.in_ok-start.ensures).most

pub returns-clause-refusal : goal.returns-clause-refusal
unfolding number_of
returns-clause-refusal c =
    let found = Ok (c.in_ok-start.start, c.in_ok-start.end) in
    (found_part _ _ _ _ _ (place_spoken _ _ _ _ _ _ c.in_ok-try_from.ensures c.of-table.ensures found c.in_ok-start.ensures)).accepted

pub returns-clause-bytes : goal.returns-clause-bytes
returns-clause-bytes c =
    let found = Ok (c.in_ok-start.start, c.in_ok-start.end) in
    let table = table_spoken _ _ _ c.args.number _ _ c.in_ok-try_from.ensures c.of-table.ensures in
    let part = found_part _ _ _ _ _ (place_spoken _ _ _ _ _ _ c.in_ok-try_from.ensures c.of-table.ensures found c.in_ok-start.ensures) in
    rw table part.cut

pub returns-clause-address : goal.returns-clause-address
returns-clause-address c =
    let found = Ok (c.in_ok-start.start, c.in_ok-start.end) in
    let table = table_spoken _ _ _ c.args.number _ _ c.in_ok-try_from.ensures c.of-table.ensures in
    let part = found_part _ _ _ c.in_ok-start.start c.in_ok-start.end
    (place_spoken _ _ _ _ _ _ c.in_ok-try_from.ensures c.of-table.ensures found c.in_ok-start.ensures) in
    rw (table, part.from)
