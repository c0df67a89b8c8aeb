-- The items of the code, in the language of shapes. Assumes nothing.
use Rattle.text.specs.Shape as shape
use Rattle.text.specs.declared.items.Item.{Item}
use Rattle.text.specs.declared.items.Item.TheVariants as items
use Rattle.text.specs.declared.items.Place.{Place}
use Rattle.text.specs.declared.items.Place.TheVariants.{Number, Tag, Word, Kind}

abbrev pub place_in : Place → shape.Item
place_in Number = shape.number 10000000000
place_in Tag = shape.number 4294967296
place_in Word = shape.word
place_in Kind = shape.kind

abbrev pub item_in : Item → shape.Item
item_in (items.Place p) = place_in p
item_in (items.Byte b) = shape.byte b
