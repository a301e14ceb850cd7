-- The classes of messages, as the program has them.
use Rattle.dc_model.specs.Marks as model
use Rattle.dc_marks.specs.declared.«class».Class.{Class}
use Rattle.dc_marks.specs.declared.«class».Class.TheVariants.{Lame, Alias, NxDomain, Answer, Referral}

-- The class without the record or the name that it goes by.
abbrev pub class_named : model.Class → Class
class_named (model.lame n) = Lame
class_named (model.renames r) = Alias
class_named model.no_name = NxDomain
class_named model.answers = Answer
class_named (model.refers n) = Referral
