use Rattle.spec_step.proofs.Beginning.{begun-room, begun-stands, founded-room, founded-stands}
use Rattle.spec_step.proofs.Refreshing.{begun-refresh, founded-refresh}
use Rattle.spec_step.proofs.laws.beginnings.Goals as goal

pub returns-clause-begun : goal.returns-clause-begun
returns-clause-begun c = begun-stands

pub returns-clause-founded : goal.returns-clause-founded
returns-clause-founded c = founded-stands

pub returns-clause-begun_room : goal.returns-clause-begun_room
returns-clause-begun_room c = begun-room

pub returns-clause-founded_room : goal.returns-clause-founded_room
returns-clause-founded_room c = founded-room

pub returns-clause-refresh : goal.returns-clause-refresh
returns-clause-refresh c = begun-refresh

pub returns-clause-founded_refresh : goal.returns-clause-founded_refresh
returns-clause-founded_refresh c = founded-refresh
