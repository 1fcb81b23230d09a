-- The classes of the code as the model's.
use Rattle.characters.specs.declared.CharacterClass.{CharacterClass}
use Rattle.characters.specs.declared.CharacterClass.TheVariants.{Plain, Entity, DecimalReference, NotAllowed}
use Rattle.model.specs.Definitions.Characters as model

abbrev pub class : CharacterClass → model.CharacterClass
class Plain = model.plain
class Entity = model.entity
class DecimalReference = model.decimal_reference
class NotAllowed = model.not_allowed
