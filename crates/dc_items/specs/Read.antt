-- What was read of a body.
use Rattle.dc_model.specs.Name.{NameRead}
use Rattle.dc_model.specs.Bodies.{ItemRead}
use Rattle.dc_packet.specs.Data.{body_of}
use Rattle.dc_items.specs.declared.plain.PlainName.{PlainName}
use Rattle.dc_items.specs.declared.item.Item.{Item}

-- A name that was read without pointers.
abbrev pub plain_read : PlainName → NameRead
plain_read r = record { name = r.name; after = r.after; pointers = 0 }

-- An item that was read.
abbrev pub item_read : Item → ItemRead
item_read x = record { item = body_of x.data; after = x.after }
