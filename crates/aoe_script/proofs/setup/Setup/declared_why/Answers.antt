use Rattle.aoe_script.proofs.setup.Setup.declared_why.Goals as goal

pub returns-in-Shelf : goal.returns-in-Shelf
returns-in-Shelf c = rw (c.in-Shelf.is, ← c.as_slice.ensures.value) c.shelf_why.ensures

pub returns-in-Slot : goal.returns-in-Slot
returns-in-Slot c = rw c.in-Slot.is c.slot_why.ensures

pub returns-in-Attach : goal.returns-in-Attach
returns-in-Attach c = rw c.in-Attach.is c.attach_why.ensures

pub returns-in-Readonly : goal.returns-in-Readonly
returns-in-Readonly c = rw c.in-Readonly.is c.readonly_why.ensures
