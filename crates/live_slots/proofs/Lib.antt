-- Laws that the proof of the listing cites.
mod Listed
