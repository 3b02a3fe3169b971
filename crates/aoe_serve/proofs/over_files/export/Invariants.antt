use Rattle.aoe_serve.specs.Backing.{held_back}
use Rattle.aoe_serve.proofs.over_files.export.Given as goal

abbrev pub ghosts-export_at : goal.ghosts-export_at
ghosts-export_at g a = record { most = held_back a.options.durable a.options.cache }
