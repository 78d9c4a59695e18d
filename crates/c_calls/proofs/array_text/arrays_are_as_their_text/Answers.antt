use Rattle.c_calls.proofs.ArrayTexts.{fault_text, text_read}
use Rattle.c_calls.proofs.array_text.arrays_are_as_their_text.Goals as goal

pub returns : goal.returns
returns c = record { problem = text_read; fault = λ a f even fit. fault_text a even fit f }
