use Rattle.settings_file.specs.Settings.{Tells}
use Rattle.std.proofs.Common.{Some}
use Rattle.toml.specs.View.{table_view}
use Rattle.settings_file.proofs.Agree.{found_missing, found_unknown, free, passed_on, refuses_missing, refuses_unknown, told_of, told_values}
use Rattle.settings_file.proofs.reading.well_formed_settings.Goals as goal

pub returns-in-Some-clause-err : goal.returns-in-Some-clause-err
returns-in-Some-clause-err c = refuses_unknown _ _ (found_unknown _ _ _ c.in_ok-unknown_keys.ensures c.in-Some.ensures)

pub returns-in-Some-first-clause-err : goal.returns-in-Some-first-clause-err
returns-in-Some-first-clause-err c =
    refuses_missing _ _ (found_unknown _ _ _ c.in_ok-unknown_keys.ensures c.in_default.ensures)
    (found_missing _ _ _ _ c.in_ok-keys.ensures c.as_slice.ensures.value c.in-Some-first.ensures)

pub returns-in_err-values-clause-err : goal.returns-in_err-values-clause-err
returns-in_err-values-clause-err c =
    let known = found_unknown _ _ _ c.in_ok-unknown_keys.ensures c.in_default.ensures in
    let there = found_missing _ _ _ _ c.in_ok-keys.ensures c.as_slice.ensures.value c.in_default-first.ensures in
    passed_on c.from_residual-in_err-values.result c.in_err-values.field-0.0 (Tells (Some (table_view c.args.document.now)))
    c.from_residual-in_err-values.ensures.1 (told_values _ _ known there c.in_err-values.ensures.bad)

pub returns-clause-free : goal.returns-clause-free
returns-clause-free c =
    let known = found_unknown _ _ _ c.in_ok-unknown_keys.ensures c.in_default.ensures in
    let there = found_missing _ _ _ _ c.in_ok-keys.ensures c.as_slice.ensures.value c.in_default-first.ensures in
    let values = c.in_ok-values.ensures in
    free _ c.in_ok-values.values c.assemble.result known there values.bad values.ok c.assemble.ensures.ok

pub returns-clause-err : goal.returns-clause-err
returns-clause-err c =
    let known = found_unknown _ _ _ c.in_ok-unknown_keys.ensures c.in_default.ensures in
    let there = found_missing _ _ _ _ c.in_ok-keys.ensures c.as_slice.ensures.value c.in_default-first.ensures in
    let values = c.in_ok-values.ensures in
    told_of _ c.in_ok-values.values c.assemble.result known there values.bad values.ok c.assemble.ensures.err
