use Rattle.std.proofs.Common.{refl}
use Rattle.std.specs.Fmt.{digits}
use Rattle.jreport.specs.Faults.{fault_text_of, session_text, op_text}
use Rattle.jreport.proofs.fault_examples.known_session_texts.Goals as goal

pub returns-clause-listing : goal.returns-clause-listing
unfolding digits fault_text_of session_text op_text
returns-clause-listing c = refl

pub returns-clause-refused : goal.returns-clause-refused
unfolding digits fault_text_of session_text op_text
returns-clause-refused c = refl

pub returns-clause-full : goal.returns-clause-full
unfolding digits fault_text_of session_text op_text
returns-clause-full c = refl
