use Rattle.xe_ctx.proofs.Cover.{pieces_in_page, pieces_of, pieces_places}
use Rattle.xe_ctx.proofs.laws.pieces_cover_the_access.Goals as goal

pub returns-clause-in_page : goal.returns-clause-in_page
returns-clause-in_page c = λ bits la n h. pieces_in_page bits la n h

pub returns-clause-at_its_place : goal.returns-clause-at_its_place
returns-clause-at_its_place c = λ bits la n h. pieces_of bits la n h

pub returns-clause-places : goal.returns-clause-places
returns-clause-places c = λ bits la n. pieces_places bits la n
