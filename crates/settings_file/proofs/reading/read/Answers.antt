use Rattle.settings_file.proofs.Agree.{found_first, told_cant}
use Rattle.settings_file.proofs.reading.read.Goals as goal

pub returns-in-Some-clause-err : goal.returns-in-Some-clause-err
returns-in-Some-clause-err c =
    let settings = c.in_ok-settings-in-Ok.ensures in
    told_cant _ _ c.in_ok-settings-in-Ok.settings _ c.in-Ok.ensures.ok settings.free settings.values (found_first _ _ _ _ c.in_ok-keys-in-Ok.ensures c.as_slice.ensures.value c.in-Some.ensures)
