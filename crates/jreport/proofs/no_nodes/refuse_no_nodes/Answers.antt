use Rattle.std.proofs.Common.{refl}
use Rattle.jreport.specs.declared.image_fault.ImageFault.TheVariants as image
use Rattle.jreport.proofs.no_nodes.refuse_no_nodes.Goals as goal

pub returns-in-Some-clause-fault : goal.returns-in-Some-clause-fault
returns-in-Some-clause-fault g c =
    record { none = c.in-Some.ensures.0; why = image.NoNodes c.args.name c.in-Some.others; is = refl; told = (refl, c.in-Some.ensures.1) }
