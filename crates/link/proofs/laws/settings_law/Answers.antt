use Rattle.link.proofs.Ends.{other_settings, other_settings-only, restart_passes}
use Rattle.link.proofs.laws.settings_law.Goals as goal

pub returns-clause-refused : goal.returns-clause-refused
returns-clause-refused c = other_settings

pub returns-clause-only : goal.returns-clause-only
returns-clause-only c = other_settings-only

pub returns-clause-begins : goal.returns-clause-begins
returns-clause-begins c = restart_passes
