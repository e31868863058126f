-- Laws of the gap, axis by axis, which its proof cites.
mod Axes
