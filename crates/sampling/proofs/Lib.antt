-- Laws that the proof of the public call cites.
mod Refusing
