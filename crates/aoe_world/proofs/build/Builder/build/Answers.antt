use Rattle.aoe_world.proofs.BuildStations.{built-host, built-past, built-shelf, on-ok}
use Rattle.aoe_world.proofs.build.Builder.build.Goals as goal

pub returns-in_ok-shelf-in-Shelf-clause-built : goal.returns-in_ok-shelf-in-Shelf-clause-built
returns-in_ok-shelf-in-Shelf-clause-built c =
    on-ok c.add_shelf.result c.add_shelf.ensures.shelves c.add_shelf.ensures.places
    (λ shelves places. built-shelf c.setup.ensures.setup c.requires.built c.add_shelf.ensures.run c.in-Shelf.is
    c.in_ok-shelf-in-Shelf.ensures.number c.in_ok-shelf-in-Shelf.ensures.serves c.add_shelf.ensures.hosts shelves places)

pub returns-in_ok-host-in-Host-clause-built : goal.returns-in_ok-host-in-Host-clause-built
returns-in_ok-host-in-Host-clause-built c =
    on-ok c.add_host.result c.add_host.ensures.hosts c.add_host.ensures.places
    (λ hosts places. built-host c.setup.ensures.setup c.requires.built c.add_host.ensures.run c.in-Host.is
    (rw c.host_line-line.ensures at c.in_ok-host-in-Host.ensures) c.add_host.ensures.shelves hosts places)

pub returns-in-Life-clause-built : goal.returns-in-Life-clause-built
returns-in-Life-clause-built c = built-past c.setup.ensures.setup c.requires.built c.in-Life.is

pub returns-in-Life-2-clause-built : goal.returns-in-Life-2-clause-built
returns-in-Life-2-clause-built c = built-past c.setup.ensures.setup c.requires.built c.in-Life.is

pub returns-in-Life-3-clause-built : goal.returns-in-Life-3-clause-built
returns-in-Life-3-clause-built c = built-past c.setup.ensures.setup c.requires.built c.in-Life.is

pub returns-in-Life-4-clause-built : goal.returns-in-Life-4-clause-built
returns-in-Life-4-clause-built c = built-past c.setup.ensures.setup c.requires.built c.in-Life.is
